use Rattle.std.specs.Prelude.{ℕ, ◌≤◌, ◌<◌, Bool, true, false, Option, Some, None, MatchOption}
use Rattle.std.proofs.Common.{arith, rules, tests}
use Rattle.std.proofs.lemmas.Iterator.{first_from_Range, serves_from_Range}
use Rattle.rules.specs.Sizes.{slot_count}
use Rattle.scans.specs.Tests.{IsLeast}
use Rattle.scans.proofs.lowest.Goals as goal

-- what `find` says of a range that begins at 0
least-found : (gives : ℕ → Bool → Type 0) (r : Option ℕ) → MatchOption r ((k : ℕ) → 0 ≤ k → k < slot_count → gives k false) (λ i. (0 ≤ i) × (i < slot_count) × gives i true × ((k : ℕ) → 0 ≤ k → k < i → gives k false)) → IsLeast gives r
least-found gives (Some i) f = record { found = (f.1, f.2, λ k. f.3 k (omega arith)) }
least-found gives None f = record { found = λ k. f k (omega arith) }

pub find-requires-clause-callable : goal.find-requires-clause-callable
unfolding slot_count
find-requires-clause-callable g c = serves_from_Range (λ x q k. search (rules, tests)) (λ x low high. search rules)

pub returns : goal.returns
unfolding slot_count
returns g c =
    least-found (goal.F-post g c.args.test) _
    (first_from_Range _ _ _ _ (λ i. goal.F-post g c.args.test i true) (λ i. goal.F-post g c.args.test i false) c.find.ensures.ran (λ x q k. search rules) (λ x q k. (search rules, search rules)))
