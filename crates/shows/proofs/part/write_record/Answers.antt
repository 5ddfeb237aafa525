use Rattle.pieces.specs.Pieces.{field}
use Rattle.shows.specs.Shows.{record_text}
use Rattle.rules.specs.Listing.{bytes}
use Rattle.buffers.proofs.TextLaws.{wrote-more}
use Rattle.std.proofs.Common.{rules}
use Rattle.shows.proofs.part.write_record.Goals as goal

pub returns : goal.returns
unfolding record_text field bytes
returns c =
    (wrote-more (wrote-more (wrote-more c.write_field-a.ensures.0 c.write_field-b.ensures.0) c.write_field-c.ensures.0) c.write_field.ensures.0, search rules)
