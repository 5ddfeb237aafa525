-- The rules' wake, kill and reparent, as the code goes through them.
use Rattle.std.specs.Prelude.{Option}
use Prim.Native.Nat.{ℕ, ◌+◌}
use native.Mathlib.Omega.{arith}
use native.Mathlib.Numerals.{add-one}
use mathlib.Core.Path.{◌≡◌, refl, ap, sym, ◌∙◌}
use mathlib.Core.Bool.{Bool, true}
use Rattle.rules.specs.declared.Slot.{Slot}
use Rattle.rules.specs.declared.Process.{Process}
use Rattle.rules.specs.declared.ProcState.TheVariants.{UNUSED, RUNNABLE, SLEEPING}
use Prim.Native.Nat.{◌<◌}
use lib.ListN.{length}
use Rattle.rules.specs.Sizes.{slot_count}
use Rattle.rules.specs.Model.{Core, Table, at, is, to_killed, with_parent}
use Rattle.rules.specs.Moves.{change, sweep, wake_one, wake, hand_over, reparent}
use Rattle.promises.specs.Order.Sound.{Queued}
use Rattle.promises.specs.Order.States.{other}
use Rattle.promises.specs.Order.Room.{queue-room}
use Rattle.promises.specs.Order.Chains.{on_core}
use Rattle.promises.proofs.Order.QueuedKept.{parent-queued, wake_one-queued, hand_over-queued}

-- a sleeper finds room in the queue
pub room_asleep : (c : Core) (s : ℕ) → Queued c → is SLEEPING (at c s) ≡ true → length c.queue < slot_count
room_asleep c s v e = queue-room c v s (other SLEEPING UNUSED (at c s) e) (other SLEEPING RUNNABLE (at c s) e)

-- .. whatever was changed in a slot before
pub room-changed : (t : Table) (s : ℕ) (f : Process → Process) {u : Table} {asleep : Bool} → u ≡ on_core (change f s) t → Queued t.core → asleep ≡ is SLEEPING (at t.core s) → asleep ≡ true → length u.core.queue < slot_count
unfolding change on_core
room-changed t s f e v a b = rw e (room_asleep t.core s v (sym a ∙ b))

-- ---- a sweep, slot by slot
pub sweep-none : (f : ℕ → Core → Core) (t : Table) → t ≡ on_core (sweep f 0) t
unfolding sweep on_core
sweep-none f t = refl

sweep-next : (f : ℕ → Core → Core) (t : Table) (n m : ℕ) {a b : Table} → m ≡ n + 1 → b ≡ on_core (f n) a → a ≡ on_core (sweep f n) t → b ≡ on_core (sweep f m) t
unfolding sweep on_core
sweep-next f t n m z e i = rw (z, add-one) (e ∙ ap (on_core (f n)) i)

-- four slots more
pub sweep-four : (f : ℕ → Core → Core) (t : Table) (n m : ℕ) {a b c d e : Table} → m ≡ n + 4 → b ≡ on_core (f n) a → c ≡ on_core (f (n + 1)) b → d ≡ on_core (f (n + 2)) c → e ≡ on_core (f (n + 3)) d
    → a ≡ on_core (sweep f n) t → e ≡ on_core (sweep f m) t
sweep-four f t n m z p q r s i =
    sweep-next f t (n + 3) m (omega arith) s (sweep-next f t (n + 2) (n + 3) (omega arith) r (sweep-next f t (n + 1) (n + 2) (omega arith) q (sweep-next f t n (n + 1) refl p i)))

-- .. each of which keeps the queue's order
pub one-queued : {f : ℕ → Core → Core} → ((i : ℕ) (c : Core) → Queued c → Queued (f i c)) → (i : ℕ) (a : Table) {b : Table} → b ≡ on_core (f i) a → Queued a.core → Queued b.core
unfolding on_core
one-queued k i a e v = rw e (k i a.core v)

pub wake-queued : (ch i : ℕ) (a : Table) {b : Table} → b ≡ on_core (wake_one ch i) a → Queued a.core → Queued b.core
wake-queued ch = one-queued (wake_one-queued ch)

pub hand-queued : (init : Option Slot) (s i : ℕ) (a : Table) {b : Table} → b ≡ on_core (hand_over init s i) a → Queued a.core → Queued b.core
hand-queued init s = one-queued (hand_over-queued init s)

pub wake-all : (ch : ℕ) (t : Table) {u : Table} → u ≡ on_core (sweep (wake_one ch) slot_count) t → u ≡ on_core (wake ch) t
unfolding wake
wake-all ch t e = e

-- ---- reparent
pub adopt-queued : (t : Table) (i : ℕ) (q : Option Slot) {u : Table} → u ≡ on_core (change (with_parent q) i) t → Queued t.core → Queued u.core
unfolding on_core
adopt-queued t i q e v = rw e (parent-queued q i t.core v)

pub reparent-all : (s : ℕ) (t : Table) {u : Table} (init : Option Slot) → init ≡ t.books.init → u ≡ on_core (sweep (hand_over init s) slot_count) t → u ≡ on_core (reparent t.books.init s) t
unfolding reparent
reparent-all s t init f e = e ∙ ap (λ (q : Option Slot). on_core (sweep (hand_over q s) slot_count) t) f
