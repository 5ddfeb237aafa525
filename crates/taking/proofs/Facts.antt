-- What the parts of a call tell its proof: who the caller is, what was taken; and the heads of the rules' calls, by what the parts answer.
use Rattle.std.specs.Prelude.{Some, None, Ok, Err, Option, ok_or, IsErr, IsErrAnd}
use Rattle.rules.specs.declared.Slot.{Slot}
use Prim.Native.Nat.{ℕ, ◌<◌}
use native.Mathlib.Omega.{arith}
use mathlib.Core.Path.{◌≡◌, refl, sym, ap, subst}
use mathlib.Core.Bool.{Bool, true, false, cond}
use lib.Dec.{leb}
use borrow.Author.Tests.{leb-false}
use lib.ListN.{length}
use Rattle.rules.specs.declared.ProcState.TheVariants.{UNUSED, RUNNABLE}
use Rattle.rules.specs.declared.Refusal.{Refusal}
use Rattle.rules.specs.declared.Refusal.TheVariants.{NoSuchHart, PidsSpent, TableFull, NoGroup}
use Rattle.rules.specs.Types.{Answer}
use Rattle.rules.specs.Sizes.{slot_count, hart_count, pid_top}
use Rattle.rules.specs.Model.{Core, Table, at, hart_at, group_at, free, is, slot}
use Rattle.rules.specs.Moves.{lowest, spend}
use Rattle.rules.specs.Calls.{Outcome, gives, moves, refuse, refuse_if, runner, on_hart, member, in_group, found, spent, taking}
use Rattle.promises.specs.Laws.Counts.{tally-lt}
use Rattle.promises.specs.Laws.Scans.{lowest-passes}
use Rattle.promises.specs.Order.Sound.{names, Sound}
use Rattle.promises.specs.Order.States.{other}
use Rattle.promises.specs.Order.Room.{room_by}
use Rattle.promises.specs.Order.Chains.{on_core}
use Rattle.promises.specs.Did.{Makes}
use Rattle.taking.specs.Parts.{runs_on, caller_of, taken_of, after_take, or_refused}

-- who the caller is
pub caller_runs : (c : Core) (h s : ℕ) → Ok s ≡ caller_of c h → hart_at c h ≡ Some (slot s)
unfolding caller_of
caller_runs c h s e = go (leb hart_count h) (hart_at c h) e
  where
    go : (b : Bool) (p : Option Slot) → Ok s ≡ cond b (Err NoSuchHart) (runs_on p) → p ≡ Some (slot s)
    go true p e = cc
    go false None e = cc
    go false (Some x) e = let z : s ≡ x.0 = cc in ap (λ (n : ℕ). Some (slot n)) (sym z)

-- a slot taken was UNUSED, and the pid is spent
pub record Took (t u : Table) (s : ℕ) : Type 0 where
  pub table : u ≡ spent t
  pub unused : is UNUSED (at t.core s) ≡ true
  pub room : t.books.pids < pid_top

pub taken-slot : (t u : Table) (s : ℕ) → Ok s ≡ taken_of t → u ≡ after_take t → Took t u s
unfolding taken_of after_take
taken-slot t u s e f = go (leb pid_top t.books.pids) refl (lowest (is UNUSED) t.core.slots) refl e f
  where
    go : (b : Bool) → leb pid_top t.books.pids ≡ b → (o : Option ℕ) → lowest (is UNUSED) t.core.slots ≡ o → Ok s ≡ cond b (Err PidsSpent) (ok_or o TableFull) → u ≡ cond b t (spent t) → Took t u s
    go true p o q e f = let z : ◌≡◌ {A = ℕ} 0 1 = cc in absurd (omega arith)
    go false p None q e f = let z : ◌≡◌ {A = ℕ} 0 1 = cc in absurd (omega arith)
    go false p (Some i) q e f = let z : s ≡ i = cc in
        record { table = f; unused = rw z (lowest-passes (is UNUSED) t.core.slots free i q); room = leb-false pid_top t.books.pids p }

-- .. so the queue has room for it, and every group for one more slot
module _ (t : Table) {u : Table} {s : ℕ} (w : Sound t) (l : s < slot_count) (e : Ok s ≡ taken_of t) (f : u ≡ after_take t) where
  took : Took t u s
  took = taken-slot t u s e f

  pub taken-room : length u.core.queue < slot_count
  unfolding spent
  taken-room = rw took.table (room_by t.core w.queued s l (other UNUSED RUNNABLE (at t.core s) took.unused))

  nobody's : (g : ℕ) → names g (at t.core s) ≡ false
  unfolding free
  nobody's g = ap (names g) ((w.tidy s).unused took.unused)

  pub taken-count : (g : ℕ) → (group_at u.books g).count < slot_count
  unfolding spent spend
  taken-count g = rw took.table (omega (
    arith,
    w.counted.count g,
    w.queued.tall,
    tally-lt (names g) t.core.slots free s (omega (arith, w.queued.tall, l)) (nobody's g),
  ))

-- ---- a call's outcome, head by head: each law turns an outcome of what follows into one of the whole
along : {o p : Outcome} {a : Answer} {u : Table} → o ≡ p → Makes p a u → Makes o a u
along {a = a} {u = u} e m = subst (λ (q : Outcome). Makes q a u) (sym e) m

pub turned_down : {r : Refusal} {t u : Table} → u ≡ t → Makes (refuse r t) (Err r) u
unfolding refuse gives
turned_down e = record { answer = refl; table = e }

pub given : {x a : Answer} {t u : Table} → a ≡ x → u ≡ t → Makes (gives x t) a u
unfolding gives
given e f = record { answer = e; table = f }

pub moved : {x : Answer} {u : Table} (t : Table) (f : Core → Core) → u ≡ on_core f t → Makes (moves x (f t.core) t) x u
unfolding moves gives on_core
moved t f e = record { answer = refl; table = e }

pub if-so : {r : Refusal} {t : Table} {b : Bool} (o : Outcome) → b ≡ true → Makes (refuse_if b r t o) (Err r) t
unfolding refuse_if
if-so o e = rw e (turned_down refl)

pub if-not : (r : Refusal) (t : Table) {b : Bool} {o : Outcome} {a : Answer} {u : Table} → b ≡ false → Makes o a u → Makes (refuse_if b r t o) a u
unfolding refuse_if
if-not r t e m = rw e m

pub found_none : {r : Refusal} {t : Table} {o : Option ℕ} (k : ℕ → Outcome) → None ≡ o → Makes (found r t o k) (Err r) t
unfolding found
found_none k e = rw (← e) (turned_down refl)

pub found_at : (r : Refusal) (t : Table) (k : ℕ → Outcome) {o : Option ℕ} {i : ℕ} {a : Answer} {u : Table} → Some i ≡ o → Makes (k i) a u → Makes (found r t o k) a u
unfolding found
found_at r t k e m = rw (← e) m

module _ (t : Table) (h : ℕ) (k : ℕ → Outcome) where
  on-hart : on_hart t h k ≡ or_refused t (caller_of t.core h) k
  unfolding on_hart refuse_if runner caller_of or_refused
  on-hart = go (leb hart_count h) (hart_at t.core h)
    where
      go : (b : Bool) (p : Option Slot) → cond b (refuse NoSuchHart t) (runner t p k) ≡ or_refused t (cond b (Err NoSuchHart) (runs_on p)) k
      go true p = refl
      go false None = refl
      go false (Some s) = refl

  pub hart-no : {r : Refusal} → Err r ≡ caller_of t.core h → Makes (on_hart t h k) (Err r) t
  unfolding or_refused
  hart-no e = along on-hart (rw (← e) (turned_down refl))

  pub hart-is : {s : ℕ} {a : Answer} {u : Table} → Ok s ≡ caller_of t.core h → Makes (k s) a u → Makes (on_hart t h k) a u
  unfolding or_refused
  hart-is e m = along on-hart (rw (← e) m)

module _ (t : Table) (s : ℕ) (k : ℕ → Outcome) where
  pub group-alone : None ≡ (at t.core s).kin.group → Makes (in_group t s k) (Err NoGroup) t
  unfolding in_group member
  group-alone e = rw (← e) (turned_down refl)

  pub group-in : {g : ℕ} {a : Answer} {u : Table} → Some g ≡ (at t.core s).kin.group → Makes (k g) a u → Makes (in_group t s k) a u
  unfolding in_group member
  group-in e m = rw (← e) m

module _ (t : Table) (k : ℕ → Table → Outcome) where
  on-taking : taking t k ≡ or_refused (after_take t) (taken_of t) (λ s. k s (spent t))
  unfolding taking refuse_if found taken_of after_take or_refused
  on-taking = go (leb pid_top t.books.pids) (lowest (is UNUSED) t.core.slots)
    where
      go : (b : Bool) (o : Option ℕ) → cond b (refuse PidsSpent t) (found TableFull (spent t) o (λ s. k s (spent t)))
          ≡ or_refused (cond b t (spent t)) (cond b (Err PidsSpent) (ok_or o TableFull)) (λ s. k s (spent t))
      go true o = refl
      go false None = refl
      go false (Some s) = refl

  pub take_no : {r : Refusal} {u : Table} → Err r ≡ taken_of t → u ≡ after_take t → Makes (taking t k) (Err r) u
  unfolding or_refused
  take_no e f = along on-taking (rw (← e) (turned_down f))

  -- v is the table with the pid spent
  pub take-is : {s : ℕ} {a : Answer} {v u : Table} → Ok s ≡ taken_of t → v ≡ after_take t → Makes (k s v) a u → Makes (taking t k) a u
  unfolding or_refused
  take-is {s} {a} {v} {u} e f m = along on-taking (rw (← e) (subst (λ (w : Table). Makes (k s w) a u) (taken-slot t v s e f).table m))

-- ---- a `?` that leaves a call: on a call's refusal, which is the answer itself, and on `ok_or`
pub exit-refused : {r : Answer} {n : Refusal} {o : Outcome} {u : Table} → IsErr r × IsErrAnd r (λ m. m ≡ n) → Makes o (Err n) u → Makes o r u
exit-refused {r = Ok x} e m = absurd e.1
exit-refused {r = Err n} e m = rw e.1 m

pub exit-none : {o : Outcome} (x : Option ℕ) {n r : Refusal} {a : Answer} {u : Table} → IsErr a × IsErrAnd a (λ y. y ≡ n) → Err n ≡ ok_or x r → Makes o (Err r) u → Makes o a u
exit-none None {n} {r} e q m = let z : n ≡ r = cc in exit-refused e (rw z m)
exit-none (Some i) e q m = absurd (cc)
