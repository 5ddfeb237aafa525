use Rattle.codes.specs.Codes.{call_numbered, calls}
use Rattle.codes.proofs.numbered.Goals as goal

pub returns-in-2 : goal.returns-in-2
unfolding call_numbered calls
returns-in-2 c = rw c.in-2.is
