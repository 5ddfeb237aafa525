-- First in, first out, over every run: a slot with k ahead is handed out by exactly the (k+1)th successful dispatch.
use Rattle.std.specs.Prelude.{ℕ, ◌+◌, ◌-◌, ◌<◌, ◌≡◌, refl, ◌≢◌, List, [], ◌∷◌, ◌++◌, length, get_or, eqb, Ok, Err}
use Rattle.std.proofs.Common.{arith, sym, ap, ◌∙◌, append_assoc, append-nil, length-append, get_or-append-add, eq-eqb}
use Rattle.std.proofs.Math.ListN.{get_or-append}
use Rattle.promises.specs.Types.{RUNNABLE, Answer, Done, Made, Handed, Reaped, Joined, Blocked}
use Rattle.rules.specs.Model.{Table, at, is}
use Rattle.rules.specs.Moves.{hand}
use Rattle.rules.specs.Calls.{Outcome, gives, moves, refuse, spent}
use Rattle.rules.specs.Runs.{Call, step, run, run_by}
use Rattle.promises.specs.Laws.Counts.{ind-small, tally-two}
use Rattle.promises.specs.Order.Sound.{Sound}
use Rattle.promises.proofs.Order.Kept.{chain-grows}
use Rattle.promises.specs.Calls.Ended.{Fair, Ended, refused, spent_on, handed, granted}
use Rattle.promises.proofs.Calls.Steps.{step-ends}
use Rattle.promises.specs.Reached.{reached}
use Rattle.promises.proofs.Reached.{step-sound, reached-sound}
use Rattle.promises.specs.FirstOut.{handed_by, handed_out, Turn, FirstInFirstOut}

-- ---- one equation a step: what was queued and what is added, is what is handed out and what is queued then
record Flows (q : List ℕ) (a : List ℕ) (r : List ℕ) : Type 0 where
  new : List ℕ
  split : q ++ new ≡ a ++ r

fair-none : (t u : Table) (a : Answer) → Fair t a u → handed_by a ≡ []
fair-none t u (Ok Done) f = refl
fair-none t u (Ok (Made p)) f = refl
fair-none t u (Ok (Handed s)) f = absurd f
fair-none t u (Ok (Reaped p x)) f = refl
fair-none t u (Ok (Joined x)) f = refl
fair-none t u (Ok Blocked) f = refl
fair-none t u (Err r) f = absurd f

ended-flows : {c : Call} {t : Table} {o : Outcome} → Ended c t o → Flows t.core.queue (handed_by o.answer) o.table.core.queue
unfolding refuse gives moves spent hand
ended-flows {t = t} (refused _ _) = record { new = []; split = append-nil t.core.queue }
ended-flows {t = t} (spent_on _ _ _) = record { new = []; split = append-nil t.core.queue }
ended-flows {t = t} (handed h s rest _ q _ _) = record { new = []; split = append-nil t.core.queue ∙ q }
ended-flows {t = t} (granted a u f m) = record { new = (chain-grows m).new; split = rw (fair-none t u a f) (sym (chain-grows m).split) }

flows_then : {q h r k s : List ℕ} → Flows q h r → Flows r k s → Flows q (h ++ k) s
flows_then {q} {h} {r} {k} {s} a b = record {
  new = a.new ++ b.new;
  split = sym (append_assoc q a.new b.new) ∙ ap (λ (l : List ℕ). l ++ b.new) a.split ∙ append_assoc h r b.new ∙ ap (λ (l : List ℕ). h ++ l) b.split
      ∙ sym (append_assoc h k s);
}

run-flows : (t : Table) (cs : List Call) → Sound t → Flows t.core.queue (handed_out (run t cs).answers) (run t cs).table.core.queue
unfolding run run_by handed_out
run-flows t [] w = record { new = []; split = append-nil t.core.queue }
run-flows t (c ∷ cs) w = flows_then (ended-flows (step-ends t w c)) (run-flows (step t c).table cs (step-sound t c w))

turn : (q out r : List ℕ) → Flows q out r → ((i k : ℕ) → i < k → k < length q → get_or q i 0 ≢ get_or q k 0) → (k : ℕ) → k < length q → Turn q out r k
turn q out r w once k here = record {
  served = λ o. aligned k here o;
  unserved = λ i l o e. once i k l here (sym (aligned i (omega arith) o) ∙ e);
  waits = λ o. omega (arith, long);
  place = λ o.
      let z : length out + (k - length out) ≡ k = omega arith in
      sym (get_or-append-add out r (k - length out) 0) ∙ rw z (ap (λ (l : List ℕ). get_or l k 0) (sym w.split) ∙ get_or-append q w.new 0 k here);
}
  where
    aligned : (i : ℕ) → i < length q → i < length out → get_or out i 0 ≡ get_or q i 0
    aligned i l o = sym (get_or-append out r 0 i o) ∙ ap (λ (m : List ℕ). get_or m i 0) (sym w.split) ∙ get_or-append q w.new 0 i l

    long : length q + length w.new ≡ length out + length r
    long = sym (length-append q w.new) ∙ ap length w.split ∙ length-append out r

pub queued-once : (t : Table) → Sound t → (i k : ℕ) → i < k → k < length t.core.queue → get_or t.core.queue i 0 ≢ get_or t.core.queue k 0
queued-once t w i k l r e =
    let s : ℕ = get_or t.core.queue k 0 in
    omega (
      arith,
      tally-two (eqb s) t.core.queue 0 i k l r (eq-eqb s _ (sym e)) (eq-eqb s s refl),
      w.queued.queue s,
      ind-small (is RUNNABLE (at t.core s)),
    )

pub first-in-first-out : FirstInFirstOut step
unfolding FirstInFirstOut run
first-in-first-out before after k here =
    let w = reached-sound before in
    turn _ _ _ (run-flows (reached before) after w) (queued-once (reached before) w) k here
