use Rattle.sched.proofs.SchedLaws.{yield-is}
use Rattle.sched.proofs.yielding.Goals as goal

pub returns : goal.returns
returns c = yield-is c.requires c.in_ok-caller.ensures.0 c.yield_on.ensures
