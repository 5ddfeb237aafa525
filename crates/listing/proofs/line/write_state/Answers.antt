use Rattle.rules.specs.Listing.{bytes}
use Rattle.listing.specs.Lines.{state_labelled}
use Rattle.buffers.proofs.TextLaws.{wrote-more}
use Rattle.listing.proofs.line.write_state.Goals as goal

pub returns : goal.returns
unfolding state_labelled bytes
returns c = wrote-more c.write-on.ensures c.write.ensures
