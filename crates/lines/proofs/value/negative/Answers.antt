use Rattle.lines.proofs.ValueLaws.{negated, not-negated}
use Rattle.std.proofs.Common.{arith}
use Rattle.lines.proofs.value.negative.Goals as goal

pub returns-then-n-le-HALF : goal.returns-then-n-le-HALF
returns-then-n-le-HALF c =
    negated c.args.n c.wrapping_neg.result c.if-n-le-HALF.true (omega arith) c.wrapping_neg.ensures

pub returns-else-n-le-HALF : goal.returns-else-n-le-HALF
returns-else-n-le-HALF c = not-negated c.args.n (λ h. absurd (omega arith))
