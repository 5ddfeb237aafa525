use Rattle.session.proofs.StandLaws.{none-heard, some-heard}
use Rattle.std.proofs.Common.{[]}
use Rattle.session.proofs.hear.Goals as goal

pub loop-init : goal.loop-init
loop-init g c = record { input = []; heard = none-heard c.requires }

pub loop-preserved : goal.loop-preserved
loop-preserved g c = some-heard c.loop.invariant c.take_all-p.ensures
