use Rattle.pieces.specs.Pieces.{field, place}
use Rattle.shows.specs.Shows.{head_text}
use Rattle.rules.specs.Listing.{bytes}
use Rattle.buffers.proofs.TextLaws.{wrote-more}
use Rattle.std.proofs.Common.{arith}
use Rattle.shows.proofs.write_head.Goals as goal

pub write_queue-c-requires : goal.write_queue-c-requires
write_queue-c-requires c =
    (c.requires.0, omega arith)

pub returns : goal.returns
unfolding head_text field place bytes
returns c =
    (rw (c.pids.ensures, c.init.ensures.0) at (wrote-more (wrote-more (wrote-more (wrote-more c.write_field-a.ensures.0 c.write_place-b.ensures.0) c.write_queue-c.ensures.0) c.write_harts-d.ensures.0) c.write.ensures), omega arith)
