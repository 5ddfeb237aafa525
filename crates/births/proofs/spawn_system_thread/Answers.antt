use Rattle.births.proofs.BirthLaws.{spawn-no, spawn-is}
use Rattle.std.proofs.Common.{arith}
use Rattle.rules.specs.Sizes.{name_size}
use Rattle.births.proofs.spawn_system_thread.Goals as goal

pub returns-in_err-i : goal.returns-in_err-i
unfolding name_size
returns-in_err-i c = spawn-no c.requires (omega arith) c.in_err-i.ensures.0 c.in_err-i.ensures.1 c.from_residual.ensures

pub returns : goal.returns
unfolding name_size
returns c = spawn-is c.requires (omega arith) c.in_ok-i.ensures.0 c.in_ok-i.ensures.1 c.spawn_in.ensures
