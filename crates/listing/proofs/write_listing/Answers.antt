use Rattle.std.proofs.Common.{◌<◌, arith}
use Rattle.rules.specs.Sizes.{slot_count}
use Rattle.buffers.proofs.TextLaws.{wrote-more}
use Rattle.listing.proofs.LineLaws.{below_more}
use Rattle.listing.proofs.write_listing.Goals as goal

pub loop-s-preserved : goal.loop-s-preserved
loop-s-preserved c =
    let h : c.loop-s.s < slot_count = unfold slot_count in omega arith in
    rw (below_more c.args.t.now c.loop-s.s h) (wrote-more c.loop-s.invariant c.write_line-on.ensures)
