-- The calls, in document 01's order: for each, its refusals in order, and what it does when granted. First what they share.
-- A call is named by what it has done, as `forked`. What is left of it once something is known has a suffix that says what: By, the caller s;
-- In, the slot that was taken, on a table with the pid spent; At, where init is; To, the thread or the size that was found; For and Past, what the scan
-- for a ZOMBIE child or for a live thread found. Letters: t a table, c a core, h a hart, s the caller, i another slot, g a group, x a status, w a wish.
use Rattle.std.specs.Prelude.{ℕ, ◌+◌, ◌-◌, ◌%◌, ◌^◌, Bool, true, false, not, cond, ◌&&◌, ◌||◌, List, [], ◌∷◌, ◌++◌, length, take, replicate, eqb, leb, ltb, ℤ, pos, negsuc, ◌+ℤ◌, Option, Some, None, Ok, Err}
use Rattle.rules.specs.Types.{Pid, UNUSED, ALLOCATED, ZOMBIE, Process, Wish, NotWanted, Writable, Unwritable, ThreadAsk, Mapped, Refusal, NoSuchHart, HartIdle, HartBusy, QueueEmpty, TableFull, PidsSpent, NoGroup, BadAddress, Unmapped, NoneSuch, StatusUnwritable, InitOutOfTurn, WrongWayOut, NotADevice, NameTooLong, SizeOutOfLimits, NoMemory, Answer, Done, Made, Handed, Reaped, Joined, Blocked, Slot}
use Rattle.rules.specs.Sizes.{slot_count, hart_count, pid_top, address_top, name_size, page_size, trapframe, user_sp, system_sp, thread_trapframe, init_size, init_top, size_top, own_channel, first_device}
use Rattle.rules.specs.Listing.{bytes}
use Rattle.rules.specs.Model.{Core, Books, Table, at, hart_at, group_at, is, is_slot, known, same_group, taken, pid, slot}
use Rattle.rules.specs.Moves.{change, publish, hand, idle, yield_on, sleep_on, zombie_on, sweep, lowest, wake, wake_of, slay, reparent, new_group, open_group, join_group, resize, set_init, spend, reap}

-- ---- an outcome, and how a call comes to refuse
pub record Outcome : Type 0 where
  pub answer : Answer
  pub table : Table

unfoldable pub gives : Answer → Table → Outcome
gives a t = record { answer = a; table = t }

-- with the books as they were
unfoldable pub moves : Answer → Core → Table → Outcome
moves a c t = gives a (record { core = c; books = t.books })

unfoldable pub refuse : Refusal → Table → Outcome
refuse r t = gives (Err r) t

unfoldable pub refuse_if : Bool → Refusal → Table → Outcome → Outcome
refuse_if b r t o = cond b (refuse r t) o

-- on with what was found
unfoldable pub found : Refusal → Table → Option ℕ → (ℕ → Outcome) → Outcome
found r t None k = refuse r t
found r t (Some i) k = k i

-- ---- the caller: the slot that the hart runs (1, 2)
unfoldable pub runner : Table → Option Slot → (ℕ → Outcome) → Outcome
runner t None k = refuse HartIdle t
runner t (Some s) k = k s.0

unfoldable pub on_hart : Table → ℕ → (ℕ → Outcome) → Outcome
on_hart t h k = refuse_if (leb hart_count h) NoSuchHart t (runner t (hart_at t.core h) k)

-- ---- the caller's group (7)
unfoldable pub member : Table → Option ℕ → (ℕ → Outcome) → Outcome
member t None k = refuse NoGroup t
member t (Some g) k = k g

unfoldable pub in_group : Table → ℕ → (ℕ → Outcome) → Outcome
in_group t s k = member t (at t.core s).kin.group k

-- ---- taking a slot (6, 5): the pid counter goes up first, even if no slot is UNUSED; the lowest UNUSED slot wins
unfoldable pub spent : Table → Table
spent t = record { core = t.core; books = spend t.books }

unfoldable pub taking : Table → (ℕ → Table → Outcome) → Outcome
taking t k =
    refuse_if (leb pid_top t.books.pids) PidsSpent t
    (found TableFull (spent t) (lowest (is UNUSED) t.core.slots) λ s. k s (spent t))

unfoldable pub fill : ℕ → Process → Core → Core
fill s p c = change (λ _. p) s c

unfoldable pub publish_new : ℕ → Process → Core → Core
publish_new s p c = publish s (fill s p c)

-- the answer of whoever took a slot: the pid just spent
unfoldable pub made_in : Table → Core → Books → Outcome
made_in t c b = gives (Ok (Made (pid t.books.pids))) (record { core = c; books = b })

-- ---- boot: the lowest UNUSED slot becomes init, ALLOCATED, in a new group, with no parent
unfoldable pub padded : List ℕ → List ℕ
padded name = take name_size (name ++ replicate name_size 0)

unfoldable pub init_name : List ℕ
init_name = padded (bytes "initname")

unfoldable pub init_in : ℕ → Table → Process
init_in s t = taken t.books.pids
    (record { group = Some (new_group t.books); parent = None; thread = false; system = false })
    (record { trapframe = trapframe; sp = user_sp s; entry = 0; top = init_top; arg = 0; ret = 0; name = init_name })

unfoldable pub booted_in : ℕ → Table → Outcome
booted_in s t = made_in t (fill s (init_in s t) t.core) (set_init s (open_group init_size t.books))

unfoldable pub booted : Table → Outcome
booted t = refuse_if (known t.books.init) InitOutOfTurn t (taking t booted_in)

-- ---- start publishes init, once
unfoldable pub started_at : Table → Option Slot → Outcome
started_at t None = refuse InitOutOfTurn t
started_at t (Some s) = refuse_if (not (is ALLOCATED (at t.core s.0))) InitOutOfTurn t (moves (Ok Done) (publish s.0 t.core) t)

unfoldable pub started : Table → Outcome
started t = started_at t t.books.init

-- ---- spawn a system thread: name and entry as given, no group, no parent, published
unfoldable pub system_in : List ℕ → ℕ → ℕ → Table → Process
system_in name entry s t = taken t.books.pids
    (record { group = None; parent = None; thread = false; system = true })
    (record { trapframe = trapframe; sp = system_sp s; entry = entry; top = 0; arg = 0; ret = 0; name = padded name })

unfoldable pub spawned_in : List ℕ → ℕ → ℕ → Table → Outcome
spawned_in name entry s t = made_in t (publish_new s (system_in name entry s t) t.core) t.books

unfoldable pub spawned : Table → List ℕ → ℕ → Outcome
spawned t name entry = refuse_if (ltb name_size (length name)) NameTooLong t (taking t (spawned_in name entry))

-- its return frees the slot at once
unfoldable pub system_returned_by : Table → ℕ → ℕ → Outcome
system_returned_by t h s =
    refuse_if (not (at t.core s).kin.system) WrongWayOut t
    (gives (Ok Done) (reap s (record { core = idle h t.core; books = t.books })))

unfoldable pub system_returned : Table → ℕ → Outcome
system_returned t h = on_hart t h (system_returned_by t h)

-- ---- fork: a non-thread child in a new group of the caller's size, with the caller's name, published
unfoldable pub child_in : ℕ → ℕ → Table → Process
child_in s c t = taken t.books.pids
    (record { group = Some (new_group t.books); parent = Some (slot s); thread = false; system = false })
    (record { trapframe = trapframe; sp = user_sp c; entry = 0; top = 0; arg = 0; ret = 0; name = (at t.core s).start.name })

unfoldable pub forked_in : Bool → ℕ → ℕ → ℕ → Table → Outcome
forked_in memory s g c t =
    refuse_if (not memory) NoMemory t
    (made_in t (publish_new c (child_in s c t) t.core) (open_group (group_at t.books g).size t.books))

unfoldable pub forked_by : Table → Bool → ℕ → Outcome
forked_by t memory s = in_group t s λ g. taking t (forked_in memory s g)

unfoldable pub forked : Table → ℕ → Bool → Outcome
forked t h memory = on_hart t h (forked_by t memory)

-- ---- thread creation: checks run before the pid is taken
unfoldable pub wrong_ask : ThreadAsk → ℕ → Bool
wrong_ask a size =
    ltb address_top (a.stack + page_size) || not (eqb (a.stack % page_size) 0) || ltb size (a.stack + page_size)
    || not (ltb a.entry size) || not (ltb a.ret size)

unfoldable pub unmapped : Mapped → Bool
unmapped m = not (m.entry && m.ret && m.stack && m.top)

-- the parent is the caller, or the caller's parent when the caller is a thread
unfoldable pub leader_of : Process → ℕ → Option Slot
leader_of p s = cond p.kin.thread p.kin.parent (Some (slot s))

unfoldable pub thread_in : ThreadAsk → ℕ → ℕ → ℕ → Table → Process
thread_in a s g c t = taken t.books.pids
    (record { group = Some g; parent = leader_of (at t.core s) s; thread = true; system = false })
    (record { trapframe = thread_trapframe c; sp = user_sp c; entry = a.entry; top = a.stack + page_size; arg = a.arg; ret = a.ret; name = (at t.core s).start.name })

unfoldable pub threaded_in : ThreadAsk → ℕ → ℕ → ℕ → Table → Outcome
threaded_in a s g c t = made_in t (publish_new c (thread_in a s g c t) t.core) (join_group g t.books)

unfoldable pub threaded_by : Table → ThreadAsk → Mapped → ℕ → Outcome
threaded_by t a m s =
    in_group t s λ g.
    refuse_if (wrong_ask a (group_at t.books g).size) BadAddress t
    (refuse_if (unmapped m) Unmapped t
    (taking t (threaded_in a s g)))

unfoldable pub threaded : Table → ℕ → ThreadAsk → Mapped → Outcome
threaded t h a m = on_hart t h (threaded_by t a m)

-- ---- dispatch: the head leaves, becomes RUNNING, queued false, channel 0
unfoldable pub hand_next : Table → ℕ → List ℕ → Outcome
hand_next t h [] = refuse QueueEmpty t
hand_next t h (s ∷ rest) = moves (Ok (Handed (slot s))) (hand h s rest t.core) t

unfoldable pub dispatched : Table → ℕ → Outcome
dispatched t h =
    refuse_if (leb hart_count h) NoSuchHart t
    (refuse_if (known (hart_at t.core h)) HartBusy t
    (hand_next t h t.core.queue))

-- ---- yield publishes the caller; sleep sets channel and SLEEPING
unfoldable pub yielded : Table → ℕ → Outcome
yielded t h = on_hart t h λ s. moves (Ok Done) (yield_on h s t.core) t

unfoldable pub slept : Table → ℕ → ℕ → Outcome
slept t h ch = on_hart t h λ s. refuse_if (ltb ch first_device) NotADevice t (moves (Ok Done) (sleep_on h s ch t.core) t)

-- ---- wake
unfoldable pub woken : Table → ℕ → Outcome
woken t ch = refuse_if (ltb ch first_device) NotADevice t (moves (Ok Done) (wake ch t.core) t)

-- ---- kill: the first slot that isn't UNUSED with that pid
unfoldable pub has_pid : Pid → Process → Bool
has_pid p q = not (is UNUSED q) && eqb q.meta.pid.0 p.0

unfoldable pub killed : Table → Pid → Outcome
killed t p = found NoneSuch t (lowest (has_pid p) t.core.slots) λ i. moves (Ok Done) (slay i t.core) t

-- ---- wait
abbrev pub unwritable : Wish → Bool
unwritable NotWanted = false
unwritable Writable = false
unwritable Unwritable = true

unfoldable pub child_of : ℕ → Process → Bool
child_of s p = is_slot s p.kin.parent && not p.kin.thread

unfoldable pub zombie_child_of : ℕ → Process → Bool
zombie_child_of s p = is ZOMBIE p && child_of s p

abbrev pub is_there : Option ℕ → Bool
is_there None = false
is_there (Some i) = true

-- the lowest ZOMBIE child that is no thread is reaped; killed is looked at only after that scan
unfoldable pub waited_for : Table → ℕ → Wish → ℕ → Option ℕ → Outcome
waited_for t h w s (Some i) =
    refuse_if (unwritable w) StatusUnwritable t
    (gives (Ok (Reaped (at t.core i).meta.pid (at t.core i).meta.xstate)) (reap i t))
waited_for t h w s None =
    refuse_if (not (is_there (lowest (child_of s) t.core.slots)) || (at t.core s).meta.killed) NoneSuch t
    (moves (Ok Blocked) (sleep_on h s (own_channel s) t.core) t)

unfoldable pub waited : Table → ℕ → Wish → Outcome
waited t h w = on_hart t h λ s. waited_for t h w s (lowest (zombie_child_of s) t.core.slots)

-- ---- join: the named thread in the caller's group, never the caller, which alone has the caller's pid
unfoldable pub thread_of : Option ℕ → Process → Bool
thread_of m p = p.kin.thread && same_group m p.kin.group

unfoldable pub thread_named : Pid → Option ℕ → Process → Bool
thread_named p m q = thread_of m q && eqb q.meta.pid.0 p.0

-- the low 32 bits, read as a two's complement number
unfoldable pub signed : ℕ → ℤ
signed x = cond (ltb (x % 2 ^ 32) (2 ^ 31)) (pos (x % 2 ^ 32)) (negsuc (2 ^ 32 - 1 - x % 2 ^ 32))

unfoldable pub joined_to : Table → ℕ → Wish → ℕ → ℕ → Outcome
joined_to t h w s i =
    cond (is ZOMBIE (at t.core i))
    (refuse_if (unwritable w) StatusUnwritable t
    (gives (Ok (Joined (signed (at t.core i).meta.xstate))) (reap i t)))
    (moves (Ok Blocked) (sleep_on h s (own_channel i) t.core) t)

unfoldable pub joined_by : Table → ℕ → Pid → Wish → ℕ → Outcome
joined_by t h p w s =
    in_group t s λ g.
    refuse_if (eqb (at t.core s).meta.pid.0 p.0) NoneSuch t
    (found NoneSuch t (lowest (thread_named p (Some g)) t.core.slots) (joined_to t h w s))

unfoldable pub joined : Table → ℕ → Pid → Wish → Outcome
joined t h p w = on_hart t h (joined_by t h p w)

-- ---- thread exit by a thread: reparent, wake its own channel, status, ZOMBIE
unfoldable pub thread_ended : Table → ℕ → ℕ → ℕ → Outcome
thread_ended t h x s = moves (Ok Done) (zombie_on h s x (wake (own_channel s) (reparent t.books.init s t.core))) t

-- ---- exit
-- the lowest thread slot of the group, if ZOMBIE, is reaped
unfoldable pub reap_if_zombie : Table → Option ℕ → Table
reap_if_zombie t None = t
reap_if_zombie t (Some i) = cond (is ZOMBIE (at t.core i)) (reap i t) t

unfoldable pub reap_first : Option ℕ → Table → Table
reap_first m t = reap_if_zombie t (lowest (thread_of m) t.core.slots)

-- .. and look again: as often as there are slots, after which the lowest is live or none is left
unfoldable pub reap_threads : Option ℕ → Table → Table
reap_threads m t = sweep (λ _. reap_first m) slot_count t

-- reparent, then wake the parent's channel
unfoldable pub departing : Table → ℕ → Core
departing t s = let c = reparent t.books.init s t.core in wake_of (at c s).kin.parent c

-- a live thread is marked killed, published if SLEEPING, and the caller sleeps on its channel; when none is left the caller dies
unfoldable pub exited_past : Table → ℕ → ℕ → ℕ → Option ℕ → Outcome
exited_past t h x s (Some i) = moves (Ok Blocked) (sleep_on h s (own_channel i) (slay i t.core)) t
exited_past t h x s None = moves (Ok Done) (zombie_on h s x (departing t s)) t

unfoldable pub leader_exited : Table → ℕ → ℕ → ℕ → Outcome
leader_exited t h x s =
    let m = (at t.core s).kin.group in
    let u = reap_threads m t in
    exited_past u h x s (lowest (thread_of m) u.core.slots)

-- init and system threads leave in neither way
abbrev pub stays : Table → ℕ → Bool
stays t s = is_slot s t.books.init || (at t.core s).kin.system

unfoldable pub exited_by : Table → ℕ → ℕ → ℕ → Outcome
exited_by t h x s = refuse_if (stays t s || (at t.core s).kin.thread) WrongWayOut t (leader_exited t h x s)

unfoldable pub exited : Table → ℕ → ℕ → Outcome
exited t h x = on_hart t h (exited_by t h x)

-- thread exit by a non-thread is the same as exit
unfoldable pub thread_exited_by : Table → ℕ → ℕ → ℕ → Outcome
thread_exited_by t h x s =
    refuse_if (stays t s) WrongWayOut t
    (cond (at t.core s).kin.thread (thread_ended t h x s) (leader_exited t h x s))

unfoldable pub thread_exited : Table → ℕ → ℕ → Outcome
thread_exited t h x = on_hart t h (thread_exited_by t h x)

-- ---- grow: size plus a signed count; only if the count is positive does the host's answer count
unfoldable pub within : ℤ → Option ℕ
within (pos n) = cond (leb n size_top) (Some n) None
within (negsuc n) = None

unfoldable pub upward : ℤ → Bool
upward (pos n) = ltb 0 n
upward (negsuc n) = false

unfoldable pub grown_to : Table → ℤ → Bool → ℕ → ℕ → Outcome
grown_to t d memory g n =
    refuse_if (upward d && not memory) NoMemory t
    (gives (Ok Done) (record { core = t.core; books = resize g n t.books }))

unfoldable pub grown_by : Table → ℤ → Bool → ℕ → Outcome
grown_by t d memory s =
    in_group t s λ g.
    found SizeOutOfLimits t (within (pos (group_at t.books g).size +ℤ d)) (grown_to t d memory g)

unfoldable pub grown : Table → ℕ → ℤ → Bool → Outcome
grown t h d memory = on_hart t h (grown_by t d memory)
