use Rattle.pieces.specs.Pieces.{place, flag}
use Rattle.shows.specs.Shows.{kin_text}
use Rattle.rules.specs.Listing.{bytes}
use Rattle.buffers.proofs.TextLaws.{wrote-more}
use Rattle.std.proofs.Common.{rules}
use Rattle.shows.proofs.part.write_kin.Goals as goal

pub returns : goal.returns
unfolding kin_text place flag bytes
returns c =
    (rw c.kin_at-k.ensures.0 at (wrote-more (wrote-more (wrote-more c.write_place-a.ensures.0 c.write_flag-b.ensures.0) c.write_flag-c.ensures.0) c.write_group.ensures.0), search rules)
