use Rattle.promises.specs.Order.Room.{queue-fits}
use Rattle.shows.specs.Shows.{show_text}
use Rattle.buffers.proofs.TextLaws.{wrote-more}
use Rattle.std.proofs.Common.{arith}
use Rattle.shows.proofs.write_show.Goals as goal

pub write_head-on-requires : goal.write_head-on-requires
write_head-on-requires c = (queue-fits _ c.requires.0.queued, omega arith)

pub returns : goal.returns
unfolding show_text
returns c =
    (wrote-more c.write_head-on.ensures.0 c.write_slots.ensures.0, omega (arith, c.write_head-on.ensures.1, c.write_slots.ensures.1))
