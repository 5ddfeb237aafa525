use Rattle.rules.specs.Listing.{bytes}
use Rattle.listing.specs.Lines.{name_labelled}
use Rattle.buffers.proofs.TextLaws.{wrote-more}
use Rattle.listing.proofs.line.write_name.Goals as goal

pub returns : goal.returns
unfolding name_labelled bytes
returns c = wrote-more (wrote-more c.write-on.ensures (rw c.shown_name-name.ensures.0 at c.write-after.ensures)) c.write.ensures
