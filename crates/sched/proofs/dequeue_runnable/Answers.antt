use Rattle.sched.proofs.SchedLaws.{dispatch-is}
use Rattle.rules.specs.Sizes.{hart_count}
use Rattle.std.proofs.Common.{arith}
use Rattle.sched.proofs.dequeue_runnable.Goals as goal

pub returns : goal.returns
unfolding hart_count
returns c = dispatch-is c.requires (omega arith) c.hart_at.ensures.0 c.if-is_some.ensures c.pop-i.ensures c.run_on.ensures
