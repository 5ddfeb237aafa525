use Rattle.std.proofs.Common.{rules}
use Rattle.anwalghid.specs.Exports.{InOrder, shown}
use Rattle.anwalghid.proofs.tables.anwalghid_show.Goals as goal

pub text_of-requires : goal.text_of-requires
unfolding InOrder
text_of-requires c t b e = rw e at c.requires

pub returns : goal.returns
unfolding shown
returns c = c.text_of.ensures shown (search rules)
