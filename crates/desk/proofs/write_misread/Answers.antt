use Rattle.desk.specs.Desk.{misread_text}
use Rattle.buffers.proofs.TextLaws.{wrote-more}
use Rattle.pieces.specs.Pieces.{field}
use Rattle.rules.specs.Listing.{bytes}
use Rattle.std.proofs.Common.{arith}
use Rattle.desk.proofs.write_misread.Goals as goal

pub returns : goal.returns
unfolding misread_text field bytes
returns c = (
  wrote-more (wrote-more (wrote-more c.write_field-a.ensures.0 c.write-b.ensures) (rw c.why_text.ensures.text at c.write-c.ensures)) c.write.ensures,
  omega (arith, c.write_field-a.ensures.1, c.write-b.ensures.place, c.why_text.ensures.short, c.write-c.ensures.place, c.write.ensures.place),
)
