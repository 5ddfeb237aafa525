use Rattle.shows.proofs.ShowLaws.{slot-none, slot-used}
use Rattle.listing.proofs.LineLaws.{used}
use Rattle.words.specs.Reading.{table_of}
use Rattle.rules.specs.Sizes.{name_size}
use Rattle.buffers.proofs.TextLaws.{wrote_none, wrote-more}
use Rattle.pieces.specs.Pieces.{field}
use Rattle.shows.specs.Shows.{used_text}
use Rattle.rules.specs.Listing.{bytes}
use Rattle.std.proofs.Common.{arith, rules}
use Rattle.shows.proofs.write_slot.Goals as goal

pub returns-in-UNUSED : goal.returns-in-UNUSED
returns-in-UNUSED c =
    (rw (slot-none (table_of c.args.t.now) c.args.s c.meta_at-m.result c.meta_at-m.ensures c.in-UNUSED.is) (wrote_none c.args.out.now c.args.at (omega (arith, c.requires.1))), omega arith)

pub write_start-d-requires : goal.write_start-d-requires
unfolding name_size
write_start-d-requires c = search rules

pub write-requires : goal.write-requires
unfolding name_size
write-requires c = search rules

pub returns : goal.returns
unfolding used_text field bytes name_size
returns c =
    (rw (slot-used (table_of c.args.t.now) c.args.s c.meta_at-m.result c.meta_at-m.ensures (used c.meta_at-m.result.state c.in_default.not-UNUSED)) (rw c.meta_at-m.ensures at (wrote-more (wrote-more (wrote-more (wrote-more c.write_field-a.ensures.0 c.write_meta-b.ensures.0) c.write_kin-c.ensures.0) c.write_start-d.ensures.0) c.write.ensures)), omega arith)
