-- Document 01's table of refusals, read by call: the lines that name it, whether each holds, and the order in which they count.
use Rattle.std.specs.Prelude.{ℕ, suc, ◌+◌, ◌%◌, Bool, true, false, not, cond, ◌&&◌, ◌||◌, List, [], ◌∷◌, length, eqb, leb, ltb, ℤ, pos, negsuc, ◌+ℤ◌, Option, Some, None, Ok, Err}
use Rattle.promises.specs.Types.{Pid, UNUSED, ALLOCATED, ZOMBIE, Process, Wish, NotWanted, Writable, Unwritable, ThreadAsk, Mapped, Answer, Done, Made, Handed, Reaped, Joined, Blocked, Slot}
use Rattle.rules.specs.Sizes.{hart_count, pid_top, name_size, page_size, address_top, size_top, first_device}
use Rattle.rules.specs.Answers.{number_of}
use Rattle.rules.specs.Model.{Table, at, hart_at, group_at, is, is_slot, known, same_group}
use Rattle.rules.specs.Runs.{Call, boot, start, spawn, system_return, fork, thread, dispatch, yield, sleep, wakeup, kill, wait, join, thread_exit, exit, grow}

-- ---- what lines ask
-- some slot passes, by its number and by what it is
unfoldable pub passing : (ℕ → Process → Bool) → ℕ → List Process → Bool
passing test i [] = false
passing test i (p ∷ ps) = test i p || passing test (suc i) ps

unfoldable pub some_slot : Table → (ℕ → Process → Bool) → Bool
some_slot t test = passing test 0 t.core.slots

-- of a slot, where there is one: what a hart runs, or init
abbrev pub of_slot : Option Slot → (ℕ → Bool) → Bool
of_slot None ask = false
of_slot (Some s) ask = ask s.0

-- of a group, where there is one
abbrev pub of_group : Option ℕ → (ℕ → Bool) → Bool
of_group None ask = false
of_group (Some g) ask = ask g

abbrev pub alone : Option ℕ → Bool
alone None = true
alone (Some g) = false

abbrev pub outside : ℤ → Bool
outside (pos n) = ltb size_top n
outside (negsuc n) = true

-- 8: what must be of a thread's addresses, in a group of that size
unfoldable pub right_addresses : ThreadAsk → ℕ → Bool
right_addresses a size =
    leb (a.stack + page_size) address_top && eqb (a.stack % page_size) 0 && leb (a.stack + page_size) size && ltb a.entry size && ltb a.ret size

-- 9: some answer of the host is no
unfoldable pub some_unmapped : Mapped → Bool
some_unmapped m = not m.entry || not m.ret || not m.stack || not m.top

-- 10: a slot that isn't UNUSED, with that pid
abbrev pub with_pid : Pid → Process → Bool
with_pid p q = not (is UNUSED q) && eqb q.meta.pid.0 p.0

-- 10, 11: a child of slot s that is no thread; the thread of that pid in a group
abbrev pub child : ℕ → Process → Bool
child s q = is_slot s q.kin.parent && not q.kin.thread

abbrev pub thread_with : Pid → Option ℕ → Process → Bool
thread_with p m q = q.kin.thread && same_group m q.kin.group && eqb q.meta.pid.0 p.0

unfoldable pub childless : Table → ℕ → Bool
childless t s = not (some_slot t (λ _. child s))

unfoldable pub has_zombie_child : Table → ℕ → Bool
has_zombie_child t s = some_slot t (λ _ q. is ZOMBIE q && child s q)

-- the thread that join names is in another slot than the caller's, and passes
unfoldable pub named_elsewhere : Table → ℕ → Pid → (Process → Bool) → Bool
named_elsewhere t s p test = some_slot t (λ i q. not (eqb i s) && (thread_with p (at t.core s).kin.group q && test q))

-- 11: the status is wanted and unwritable
abbrev pub cannot_write : Wish → Bool
cannot_write NotWanted = false
cannot_write Writable = false
cannot_write Unwritable = true

-- 18: the count is positive
abbrev pub positive : ℤ → Bool
positive (pos n) = ltb 0 n
positive (negsuc n) = false

-- ---- the lines that name a call, in the table's order
pub record Line : Type 0 where
  pub number : ℕ
  pub holds : Bool

abbrev pub line : ℕ → Bool → Line
line n b = record { number = n; holds = b }

module _ (t : Table) where
  -- of the caller on hart h
  abbrev caller : ℕ → (ℕ → Bool) → Bool
  caller h ask = of_slot (hart_at t.core h) ask

  -- 1, 2: hart number 8 or more; hart runs nothing
  abbrev hart_lines : ℕ → List Line → List Line
  hart_lines h l = line 1 (leb hart_count h) ∷ line 2 (not (known (hart_at t.core h))) ∷ l

  -- 5, 6: no UNUSED slot; pid counter at 2^64 - 1
  abbrev slot_lines : List Line → List Line
  slot_lines l = line 5 (not (some_slot t (λ _. is UNUSED))) ∷ line 6 (eqb t.books.pids pid_top) ∷ l

  -- 7: a slot without group
  abbrev group_line : ℕ → List Line → List Line
  group_line h l = line 7 (caller h λ s. alone (at t.core s).kin.group) ∷ l

  unfoldable pub lines_of : Call → List Line
  lines_of boot = slot_lines (line 12 (known t.books.init) ∷ [])
  lines_of start = line 12 (not (of_slot t.books.init λ s. is ALLOCATED (at t.core s))) ∷ []
  lines_of (spawn name entry) = slot_lines (line 15 (ltb name_size (length name)) ∷ [])
  lines_of (system_return h) = hart_lines h (line 13 (caller h λ s. not (at t.core s).kin.system) ∷ [])
  lines_of (fork h memory) = hart_lines h (slot_lines (group_line h (line 18 (not memory) ∷ [])))
  lines_of (thread h a m) = hart_lines h (slot_lines (group_line h (
      line 8 (caller h λ s. of_group (at t.core s).kin.group λ g. not (right_addresses a (group_at t.books g).size)) ∷ line 9 (some_unmapped m) ∷ []
      )))
  lines_of (dispatch h) = line 1 (leb hart_count h) ∷ line 3 (known (hart_at t.core h)) ∷ line 4 (eqb (length t.core.queue) 0) ∷ []
  lines_of (yield h) = hart_lines h []
  lines_of (sleep h ch) = hart_lines h (line 14 (ltb ch first_device) ∷ [])
  lines_of (wakeup ch) = line 14 (ltb ch first_device) ∷ []
  lines_of (kill p) = line 10 (not (some_slot t (λ _. with_pid p))) ∷ []
  lines_of (wait h w) = hart_lines h (
      line 10 (caller h λ s. childless t s || ((at t.core s).meta.killed && not (has_zombie_child t s)))
      ∷ line 11 (caller h λ s. has_zombie_child t s && cannot_write w)
      ∷ []
      )
  lines_of (join h p w) = hart_lines h (group_line h (
      line 10 (caller h λ s. not (named_elsewhere t s p (λ _. true)))
      ∷ line 11 (caller h λ s. named_elsewhere t s p (is ZOMBIE) && cannot_write w)
      ∷ []
      ))
  lines_of (thread_exit h x) = hart_lines h (line 13 (caller h λ s. is_slot s t.books.init || (at t.core s).kin.system) ∷ [])
  lines_of (exit h x) = hart_lines h (line 13 (caller h λ s. is_slot s t.books.init || (at t.core s).kin.system || (at t.core s).kin.thread) ∷ [])
  lines_of (grow h d memory) = hart_lines h (group_line h (
      line 17 (caller h λ s. of_group (at t.core s).kin.group λ g. outside (pos (group_at t.books g).size +ℤ d)) ∷ line 18 (positive d && not memory) ∷ []
      ))

-- ---- the order
unfoldable pub order : List ℕ
order = 1 ∷ 2 ∷ 3 ∷ 4 ∷ 12 ∷ 13 ∷ 14 ∷ 15 ∷ 7 ∷ 8 ∷ 9 ∷ 17 ∷ 6 ∷ 5 ∷ 18 ∷ 10 ∷ 11 ∷ 16 ∷ []

unfoldable pub due : ℕ → List Line → Bool
due n [] = false
due n (l ∷ ls) = cond (eqb n l.number) l.holds (due n ls)

-- the first number of the order whose line holds
unfoldable pub first_of : List ℕ → List Line → Option ℕ
first_of [] ls = None
first_of (n ∷ ns) ls = cond (due n ls) (Some n) (first_of ns ls)

-- ---- the number of a refusal, where an answer is one
abbrev pub refusal_of : Answer → Option ℕ
refusal_of (Ok Done) = None
refusal_of (Ok (Made p)) = None
refusal_of (Ok (Handed s)) = None
refusal_of (Ok (Reaped p x)) = None
refusal_of (Ok (Joined x)) = None
refusal_of (Ok Blocked) = None
refusal_of (Err r) = Some (number_of r)

-- ---- which refusals spend a pid: a full table, and a fork without memory
unfoldable pub forks : Call → Bool
forks boot = false
forks start = false
forks (spawn _ _) = false
forks (system_return _) = false
forks (fork _ _) = true
forks (thread _ _ _) = false
forks (dispatch _) = false
forks (yield _) = false
forks (sleep _ _) = false
forks (wakeup _) = false
forks (kill _) = false
forks (wait _ _) = false
forks (join _ _ _) = false
forks (thread_exit _ _) = false
forks (exit _ _) = false
forks (grow _ _ _) = false

unfoldable pub spends_pid : Call → ℕ → Bool
spends_pid c n = eqb n 5 || (forks c && eqb n 18)
