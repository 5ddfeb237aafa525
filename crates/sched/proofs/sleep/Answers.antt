use Rattle.sched.proofs.SchedLaws.{sleep-is}
use Rattle.rules.specs.Sizes.{slot_count, first_device}
use Rattle.std.proofs.Common.{arith}
use Rattle.sched.proofs.sleep.Goals as goal

pub returns : goal.returns
unfolding first_device slot_count
returns c = sleep-is c.requires c.in_ok-caller.ensures.0 (omega arith) c.sleep_on.ensures
