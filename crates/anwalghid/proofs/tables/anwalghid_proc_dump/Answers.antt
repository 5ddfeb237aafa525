use Rattle.std.proofs.Common.{rules}
use Rattle.anwalghid.specs.Exports.{listed}
use Rattle.anwalghid.proofs.tables.anwalghid_proc_dump.Goals as goal

pub returns : goal.returns
unfolding listed
returns c = c.text_of.ensures listed (search rules)
