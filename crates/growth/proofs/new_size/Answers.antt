use Rattle.growth.proofs.SizeLaws.{filtered, given, sum-fits}
use Rattle.std.proofs.Common.{◌≡◌, to_z-of_z, rules, arith, ◌∙◌}
use Rattle.rules.specs.Sizes.{size_top, slot_count, page_size, trampoline, trapframe}
use mir.Syntax.{w128}
use mir.Val.{SFits}
use mir.Facts.{sfits_widen}
use lib.IntN.{pos, ◌+ℤ◌}
use Rattle.growth.proofs.new_size.Goals as goal

pub returns : goal.returns
unfolding size_top trapframe trampoline page_size slot_count
returns c =
    let count : c.from-2.result ≡ c.args.count = c.from-2.ensures ∙ to_z-of_z c.ranges.count in
    let up : SFits w128 (pos c.args.size) = record { sfits = omega arith } in
    let by : SFits w128 c.args.count = sfits_widen tt c.ranges.count in
    let sum = sum-fits c.args.size c.args.count (omega arith) c.ranges.count in
    let d = rw (c.from.ensures, count, to_z-of_z up, to_z-of_z by, to_z-of_z sum) at c.try_from.ensures in
    filtered c.ok.result (pos c.args.size +ℤ c.args.count) (given _ _ c.try_from.result c.ok.result c.ok.ensures.value d) c.filter.ensures (λ x b g. search rules)
