use Rattle.pieces.specs.Pieces.{field, flag}
use Rattle.shows.specs.Shows.{meta_text}
use Rattle.rules.specs.Listing.{bytes}
use Rattle.buffers.proofs.TextLaws.{wrote-more}
use Rattle.std.proofs.Common.{rules}
use Rattle.shows.proofs.part.write_meta.Goals as goal

pub returns : goal.returns
unfolding meta_text field flag bytes
returns c =
    (wrote-more (wrote-more (wrote-more (wrote-more (wrote-more c.write_state-a.ensures.0 c.write_field-b.ensures.0) c.write_flag-c.ensures.0) c.write_field-d.ensures.0) c.write_field-e.ensures.0) c.write_flag.ensures.0, search rules)
