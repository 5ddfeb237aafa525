use Rattle.pieces.proofs.DigitLaws.{left-more}
use Rattle.pieces.proofs.digits.decimal.Goals as goal

pub loop-rest-preserved : goal.loop-rest-preserved
loop-rest-preserved c = left-more _ c.loop-rest-test.true c.loop-rest.invariant
