use Rattle.sched.proofs.SchedLaws.{wake-is}
use Rattle.rules.specs.Sizes.{slot_count, first_device}
use Rattle.std.proofs.Common.{arith}
use Rattle.sched.proofs.wake_up.Goals as goal

pub returns : goal.returns
unfolding first_device slot_count
returns c = wake-is c.requires (omega arith) c.wake_up.ensures
