use Rattle.births.proofs.BirthLaws.{start-is}
use Rattle.births.proofs.start_init_process.Goals as goal

pub returns-then-is : goal.returns-then-is
returns-then-is c = start-is c.requires c.init.ensures.0 c.in_ok-init.ensures.ok_part c.if-is.ensures c.make_runnable.ensures
