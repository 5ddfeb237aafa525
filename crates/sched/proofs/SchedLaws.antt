-- Each way through a call, as the rules have it.
use Rattle.std.specs.Prelude.{Option, Some, None, Ok, Err, IsErr, IsErrAnd, is_some, ok_or}
use Prim.Native.Nat.{ℕ, ◌≤◌, ◌<◌}
use native.Mathlib.Omega.{arith}
use mathlib.Core.Path.{◌≡◌, refl, sym, ap, ◌∙◌}
use mathlib.Core.Bool.{Bool, true, false}
use lib.ListN.{length, drop_of_length-le}
use borrow.Author.Tests.{le-leb, lt-leb, lt-ltb, le-ltb}
use Rattle.rules.specs.declared.ProcState.TheVariants.{UNUSED, RUNNABLE, RUNNING}
use Rattle.rules.specs.declared.Slot.{Slot}
use Rattle.rules.specs.declared.Pid.{Pid}
use Rattle.rules.specs.declared.Refusal.{Refusal}
use Rattle.rules.specs.declared.Refusal.TheVariants.{NoSuchHart, HartBusy, QueueEmpty, NotADevice, NoneSuch}
use Rattle.rules.specs.declared.Grant.TheVariants.{Done, Handed}
use Rattle.rules.specs.Types.{Answer}
use Rattle.rules.specs.Sizes.{slot_count, hart_count, first_device}
use Rattle.rules.specs.Model.{Core, Table, at, hart_at, known, slot}
use Rattle.rules.specs.Moves.{change, hand, yield_on, sleep_on, wake, slay, lowest}
use Rattle.rules.specs.Calls.{gives, moves, hand_next, dispatched, yielded, slept, woken, killed, has_pid}
use Rattle.rules.specs.Runs.{step, dispatch, yield, sleep, wakeup, kill}
use Rattle.promises.specs.Order.Sound.{Queued, Sound}
use Rattle.promises.specs.Order.States.{other, runs-running}
use Rattle.promises.specs.Order.Room.{queue-room, queue-fits}
use Rattle.promises.specs.Order.Chains.{on_core}
use Rattle.promises.specs.Did.{Did}
use Rattle.promises.proofs.Did.{did}
use Rattle.words.specs.Effects.{with_queue, Popped}
use Rattle.taking.specs.Parts.{caller_of}
use Rattle.taking.proofs.Facts.{caller_runs, turned_down, moved, if-so, if-not, found_none, found_at, hart-no, hart-is, exit-refused}

-- ---- dispatch
known-is : (p : Option Slot) → known p ≡ is_some p
known-is None = refl
known-is (Some s) = refl

module _ {t : Table} {h : ℕ} (w : Sound t) where
  pub dispatch-none : hart_count ≤ h → Did (dispatch h) t (Err NoSuchHart) t
  unfolding step dispatched
  dispatch-none b = did w (if-so _ (le-leb hart_count h b))

  module _ (b : h < hart_count) {p : Option Slot} (e : p ≡ hart_at t.core h) where
    runs : {q : Bool} → q ≡ is_some p → known (hart_at t.core h) ≡ q
    runs f = ap known (sym e) ∙ known-is p ∙ sym f

    pub dispatch-busy : true ≡ is_some p → Did (dispatch h) t (Err HartBusy) t
    unfolding step dispatched
    dispatch-busy f = did w (if-not _ t (lt-leb hart_count h b) (if-so _ (runs f)))

    module _ (f : false ≡ is_some p) where
      pub dispatch-empty : length t.core.queue ≡ 0 → Did (dispatch h) t (Err QueueEmpty) t
      unfolding step dispatched hand_next
      dispatch-empty z = did w (if-not _ t (lt-leb hart_count h b) (if-not _ t (runs f) (rw (drop_of_length-le t.core.queue {i = 0} (omega arith)) (turned_down refl))))

      pub dispatch-is : {s : ℕ} {q u : Table} → Popped t s q → u ≡ on_core (λ c. hand h s c.queue c) q → Did (dispatch h) t (Ok (Handed (slot s))) u
      unfolding step dispatched hand_next moves gives hand change on_core with_queue
      dispatch-is {s} r g = did w (if-not _ t (lt-leb hart_count h b) (if-not _ t (runs f)
          (rw r.head (record { answer = refl; table = g ∙ ap (on_core (λ c. hand h s c.queue c)) r.rest }))))

-- ---- yield, sleep
-- a RUNNING caller does not wait, so the queue has room for it
pub caller-room : {c : Core} (h : ℕ) {s : ℕ} → Queued c → Ok s ≡ caller_of c h → length c.queue < slot_count
caller-room {c} h {s} v e = let r = runs-running h s c v (caller_runs c h s e) in queue-room c v s (other RUNNING UNUSED (at c s) r) (other RUNNING RUNNABLE (at c s) r)

module _ {t : Table} {h : ℕ} (w : Sound t) where
  pub yield-no : {r : Answer} {n : Refusal} → Err n ≡ caller_of t.core h → IsErr r × IsErrAnd r (λ y. y ≡ n) → Did (yield h) t r t
  unfolding step yielded
  yield-no e f = did w (exit-refused f (hart-no t h _ e))

  pub yield-is : {s : ℕ} {u : Table} → Ok s ≡ caller_of t.core h → u ≡ on_core (yield_on h s) t → Did (yield h) t (Ok Done) u
  unfolding step yielded
  yield-is {s} e f = did w (hart-is t h _ e (moved t (yield_on h s) f))

  module _ {ch : ℕ} where
    pub sleep-no : {r : Answer} {n : Refusal} → Err n ≡ caller_of t.core h → IsErr r × IsErrAnd r (λ y. y ≡ n) → Did (sleep h ch) t r t
    unfolding step slept
    sleep-no e f = did w (exit-refused f (hart-no t h _ e))

    pub sleep-low : {s : ℕ} → Ok s ≡ caller_of t.core h → ch < first_device → Did (sleep h ch) t (Err NotADevice) t
    unfolding step slept
    sleep-low e b = did w (hart-is t h _ e (if-so _ (lt-ltb ch first_device b)))

    pub sleep-is : {s : ℕ} {u : Table} → Ok s ≡ caller_of t.core h → first_device ≤ ch → u ≡ on_core (sleep_on h s ch) t → Did (sleep h ch) t (Ok Done) u
    unfolding step slept
    sleep-is {s} e b f = did w (hart-is t h _ e (if-not _ t (le-ltb ch first_device b) (moved t (sleep_on h s ch) f)))

-- ---- wake, kill
module _ {t : Table} (w : Sound t) where
  module _ {ch : ℕ} where
    pub wake-low : ch < first_device → Did (wakeup ch) t (Err NotADevice) t
    unfolding step woken
    wake-low b = did w (if-so _ (lt-ltb ch first_device b))

    pub wake-is : {u : Table} → first_device ≤ ch → u ≡ on_core (wake ch) t → Did (wakeup ch) t (Ok Done) u
    unfolding step woken
    wake-is b f = did w (if-not _ t (le-ltb ch first_device b) (moved t (wake ch) f))

  module _ {p : Pid} where
    pub kill-no : {r : Answer} {n : Refusal} {o : Option ℕ} → o ≡ lowest (has_pid p) t.core.slots → Err n ≡ ok_or o NoneSuch → IsErr r × IsErrAnd r (λ y. y ≡ n) → Did (kill p) t r t
    unfolding step killed
    kill-no {n = n} {o = None} e f g = let z : n ≡ NoneSuch = cc in did w (exit-refused g (rw z (found_none _ e)))
    kill-no {o = Some i} e f g = absurd cc

    pub kill-is : {o : Option ℕ} {i : ℕ} {u : Table} → o ≡ lowest (has_pid p) t.core.slots → o ≡ Some i → u ≡ on_core (slay i) t → Did (kill p) t (Ok Done) u
    unfolding step killed
    kill-is {i = i} e z f = did w (found_at _ t _ (sym z ∙ e) (moved t (slay i) f))

-- ---- what the check answers refusals by, and the room that a call asks for
pub ruleset refusals = (dispatch-none, dispatch-busy, dispatch-empty, queue-fits, caller-room, yield-no, sleep-no, sleep-low, wake-low, kill-no)
