use Rattle.std.specs.Prelude.{ℕ, ◌<◌, ◌≡◌, Bool, List, Option, Some, None, unwrap_or}
use Rattle.std.proofs.Common.{arith, rules, ap, ◌∙◌}
use Rattle.rules.specs.Sizes.{slot_count, group_count}
use Rattle.rules.specs.Model.{group_at, no_group}
use Rattle.rules.specs.Moves.{empty_group, or_zero, new_group}
use Rattle.words.specs.Reading.{table_of}
use Rattle.words.proofs.Facts.{groups-count}
use Rattle.scans.specs.Tests.{IsLeast}
use Rattle.scans.proofs.Scan.{least-lowest}
use Rattle.scans.proofs.new_group.Goals as goal

pub lowest-requires : goal.lowest-requires
unfolding slot_count group_count
lowest-requires c = search rules

least-group : (w : List ℕ) {gives : ℕ → Bool → Type 0} (r : Option ℕ) {n : ℕ} → IsLeast gives r → ((k : ℕ) (b : Bool) → gives k b → b ≡ empty_group (group_at (table_of w).books k)) → n ≡ unwrap_or r 0 → (n ≡ new_group (table_of w).books) × (n < group_count)
unfolding new_group slot_count group_count
least-group w (Some i) f same e = (e ∙ ap or_zero (least-lowest empty_group (table_of w).books.groups no_group (Some i) (groups-count w) f same), omega (arith, e, f.found.0))
least-group w None f same e = (e ∙ ap or_zero (least-lowest empty_group (table_of w).books.groups no_group None (groups-count w) f same), omega (arith, e))

pub returns : goal.returns
returns c = least-group c.args.t.now c.lowest.result c.lowest.ensures (λ k b h. search rules) c.unwrap_or.ensures
