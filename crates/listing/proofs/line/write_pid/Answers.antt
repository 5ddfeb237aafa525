use Rattle.rules.specs.Listing.{bytes}
use Rattle.listing.specs.Lines.{pid_text}
use Rattle.buffers.proofs.TextLaws.{wrote-more}
use Rattle.listing.proofs.line.write_pid.Goals as goal

pub returns : goal.returns
unfolding pid_text bytes
returns c = wrote-more c.write-on.ensures c.write.ensures
