use Rattle.sched.proofs.SchedLaws.{kill-is}
use Rattle.sched.proofs.kill.Goals as goal

pub returns : goal.returns
returns c = kill-is c.requires c.with_pid.ensures.0 c.in_ok-i.ensures.ok_part c.slay.ensures
