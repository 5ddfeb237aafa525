use Rattle.births.proofs.BirthLaws.{boot-no, boot-is}
use Rattle.births.proofs.user_init.Goals as goal

pub returns-in_err-i : goal.returns-in_err-i
returns-in_err-i c = boot-no c.requires c.init.ensures.0 c.if-is_some.ensures c.in_err-i.ensures.0 c.in_err-i.ensures.1 c.from_residual.ensures

pub returns : goal.returns
returns c = boot-is c.requires c.init.ensures.0 c.if-is_some.ensures c.in_ok-i.ensures.0 c.in_ok-i.ensures.1 c.boot_in.ensures
