use Rattle.std.proofs.Common.{rules}
use Rattle.anwalghid.proofs.calls.anwalghid_sleep.Goals as goal

pub returns : goal.returns
returns c = c.on_one.ensures _ (search rules)
