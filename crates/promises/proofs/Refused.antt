-- A call is refused when, and only when, a line of document 01's table holds, with the first number in its order; a refusal changes nothing but the pid counter under 5 and fork's 18, and there by exactly one.
use Rattle.std.specs.Prelude.{ℕ, ◌+◌, ◌≡◌, refl, cond, List, Err}
use Rattle.std.proofs.Common.{arith, subst}
use Rattle.promises.specs.Types.{Refusal, Answer}
use Rattle.rules.specs.Answers.{number_of}
use Rattle.rules.specs.Model.{Table}
use Rattle.rules.specs.Moves.{spend}
use Rattle.rules.specs.Calls.{Outcome, gives, moves, refuse, spent}
use Rattle.rules.specs.Runs.{Call, step}
use Rattle.promises.specs.Calls.Ended.{Fair, Ended, refused, spent_on, handed, granted}
use Rattle.promises.proofs.Calls.Steps.{step-ends}
use Rattle.promises.specs.Calls.RefusalTable.{lines_of, order, first_of, refusal_of, spends_pid}
use Rattle.promises.specs.Calls.Refusals.{Right}
use Rattle.promises.proofs.Calls.Refusals.{step-when}
use Rattle.promises.specs.Reached.{reached}
use Rattle.promises.proofs.Reached.{reached-sound}

pub refused-when : (cs : List Call) (c : Call) → refusal_of (step (reached cs) c).answer ≡ first_of order (lines_of (reached cs) c)
unfolding Right
refused-when cs c = step-when (reached cs) (reached-sound cs) c

-- ---- what a refusal leaves
ended-unharmed : {c : Call} {t : Table} {o : Outcome} (r : Refusal) → Ended c t o → o.answer ≡ Err r → o.table ≡ cond (spends_pid c (number_of r)) (spent t) t
unfolding refuse gives moves
ended-unharmed r (refused q s) e = let z : q ≡ r = cc in rw (← z, s)
ended-unharmed r (spent_on q s _) e = let z : q ≡ r = cc in rw (← z, s)
ended-unharmed r (handed _ _ _ _ _ _ _) e = let z : ◌≡◌ {A = ℕ} 0 1 = cc in absurd (omega arith)
ended-unharmed {t = t} r (granted a u f _) e = absurd (subst (λ (x : Answer). Fair t x u) e f)

pub refusal-unharmed : (cs : List Call) (c : Call) (r : Refusal) → (step (reached cs) c).answer ≡ Err r
    → (step (reached cs) c).table ≡ cond (spends_pid c (number_of r)) (spent (reached cs)) (reached cs)
refusal-unharmed cs c r e = ended-unharmed r (step-ends (reached cs) (reached-sound cs) c) e

-- what it means that the pid is spent: the counter goes up by one, and all else stays
pub spent-only : (t : Table) → ((spent t).books.pids ≡ t.books.pids + 1) × ((spent t).core ≡ t.core) × ((spent t).books.groups ≡ t.books.groups) × ((spent t).books.init ≡ t.books.init)
unfolding spent spend
spent-only t = (refl, refl, refl, refl)
