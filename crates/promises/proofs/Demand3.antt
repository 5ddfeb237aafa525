-- Demand 3 in plain words, of every table that calls make of a fresh one. First in, first out is in FirstOut.antt.
use Rattle.std.specs.Prelude.{ℕ, ◌<◌, ◌≡◌, refl, true, not, List, [], ◌∷◌, eqb, Option, Some, None, Ok, Err}
use Rattle.std.proofs.Common.{arith, subst, ap, ◌∙◌, get_or-set_same, eq-eqb}
use Rattle.std.proofs.lemmas.Bool.{lt-leb}
use Rattle.promises.specs.Types.{Slot, Answer, RUNNING, SLEEPING, Refusal, Handed}
use Rattle.rules.specs.Sizes.{hart_count, own_channel}
use Rattle.rules.specs.Model.{Table, at, hart_at, is, is_slot, slot}
use Rattle.rules.specs.Moves.{change, hand, sleeps_on}
use Rattle.rules.specs.Calls.{refuse, Outcome, gives, moves, refuse_if, hand_next, dispatched, child_of, zombie_child_of}
use Rattle.rules.specs.Runs.{Call, dispatch, step}
use Rattle.promises.specs.Laws.Bools.{and_both, clash}
use Rattle.promises.specs.Laws.Counts.{ind, ind-small, tally-two, tally-stands}
use Rattle.promises.specs.Order.Sound.{Sound}
use Rattle.promises.specs.Order.Room.{queued-runnable}
use Rattle.promises.specs.Order.States.{runs-running}
use Rattle.promises.proofs.FirstOut.{queued-once}
use Rattle.promises.specs.Calls.Ended.{Fair, Ended, refused, spent_on, handed, granted}
use Rattle.promises.proofs.Calls.Steps.{step-ends}
use Rattle.promises.specs.Reached.{reached}
use Rattle.promises.proofs.Reached.{reached-sound}
use Rattle.promises.specs.Demand3.{Demand3, DispatchRule, Granted}

pub sound-demand : (t : Table) → Sound t → Demand3 t
unfolding zombie_child_of child_of
sound-demand t w = record {
  runnable-queued = λ s e. tally-stands (eqb s) q 0 (omega (arith, w.queued.queue s, ap ind e));
  queued-runnable = queued-runnable t.core w.queued;
  once-queued = queued-once t w;
  running-held = λ s e. tally-stands (is_slot s) t.core.harts None (omega (arith, w.queued.harts s, ap ind e));
  hart-count = w.queued.wide;
  held-once = λ s i k l r a b. omega (
    arith,
    tally-two (is_slot s) t.core.harts None i k l (omega (arith, w.queued.wide)) (holds s a) (holds s b),
    w.queued.harts s,
    ind-small (is RUNNING (at t.core s)),
  );
  held-running = λ h s e. runs-running h s t.core w.queued e;
  no-zombie-child = λ s j a z p y. clash (and_both _ _ z (and_both _ _ (holds s p) (ap not y))) (w.asleep.waits s j (asleep s (own_channel s) a.0 a.1));
  sleeps-on-live = λ s i l n e f. w.asleep.joins s i l n (asleep s (own_channel i) e f);
}
  where
    q : List ℕ
    q = t.core.queue

    holds : (s : ℕ) {p : Option Slot} → p ≡ Some (slot s) → is_slot s p ≡ true
    holds s e = ap (is_slot s) e ∙ eq-eqb s s refl

    asleep : (s ch : ℕ) → is SLEEPING (at t.core s) ≡ true → (at t.core s).meta.channel ≡ ch → sleeps_on ch (at t.core s) ≡ true
    asleep s ch e f = and_both _ _ e (eq-eqb _ ch f)

pub demand-3 : (cs : List Call) → Demand3 (reached cs)
demand-3 cs = sound-demand (reached cs) (reached-sound cs)

pub dispatch-granted : DispatchRule step
unfolding DispatchRule step dispatched refuse_if hand_next moves gives hand change
dispatch-granted before h s rest r i e = record {
  answer = rw (lt-leb hart_count h r, i, e);
  hart = rw (lt-leb hart_count h r, i, e) (get_or-set_same t.core.harts h (Some (slot s)) None (omega (arith, (reached-sound before).queued.wide)));
  queue = rw (lt-leb hart_count h r, i, e);
}
  where
    t : Table
    t = reached before

-- .. so it is refused only for an empty queue
pub refused-only-empty : (before : List Call) (h : ℕ) (r : Refusal) → h < hart_count → hart_at (reached before).core h ≡ None
    → (step (reached before) (dispatch h)).answer ≡ Err r → (reached before).core.queue ≡ []
unfolding DispatchRule
refused-only-empty before h r l i e = go (reached before).core.queue refl
  where
    head : (s : ℕ) (rest : List ℕ) → (reached before).core.queue ≡ s ∷ rest → (step (reached before) (dispatch h)).answer ≡ Ok (Handed (slot s))
    head s rest f = (dispatch-granted before h s rest l i f).answer

    go : (q : List ℕ) → (reached before).core.queue ≡ q → q ≡ []
    go [] f = refl
    go (s ∷ rest) f = let z = head s rest f in cc

ended-handed : {c : Call} {t : Table} {o : Outcome} (s : Slot) → Ended c t o → o.answer ≡ Ok (Handed s) → Granted c
unfolding refuse gives moves
ended-handed s (refused _ _) e = let z : ◌≡◌ {A = ℕ} 0 1 = cc in absurd (omega arith)
ended-handed s (spent_on _ _ _) e = let z : ◌≡◌ {A = ℕ} 0 1 = cc in absurd (omega arith)
ended-handed s (handed h _ _ e _ _ _) _ = record { hart = h; call = e }
ended-handed {t = t} s (granted a u f _) e = absurd (subst (λ (x : Answer). Fair t x u) e f)

pub handed-by-dispatch : (before : List Call) (c : Call) (s : Slot) → (step (reached before) c).answer ≡ Ok (Handed s) → Granted c
handed-by-dispatch before c s e = ended-handed s (step-ends (reached before) (reached-sound before) c) e
