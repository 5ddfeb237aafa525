use Rattle.births.proofs.BirthLaws.{return-is}
use Rattle.births.proofs.free_system_thread.Goals as goal

pub returns : goal.returns
returns c = return-is c.requires c.in_ok-caller.ensures.0 c.kin_at.ensures.0 c.if-not-kin_at.false c.idle.ensures c.free_proc.ensures
