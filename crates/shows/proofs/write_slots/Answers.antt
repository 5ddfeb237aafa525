use Rattle.shows.proofs.SlotsLaws.{shown-none, shown-room, shown-next, shown-all}
use Rattle.words.specs.Reading.{table_of}
use Rattle.rules.specs.Sizes.{slot_count}
use Rattle.std.proofs.Common.{arith}
use Rattle.shows.proofs.write_slots.Goals as goal

pub loop-s-init : goal.loop-s-init
loop-s-init c = shown-none (table_of c.args.t.now) c.args.out.now c.args.at (omega (arith, c.requires))

pub write_slot-on-requires : goal.write_slot-on-requires
unfolding slot_count
write_slot-on-requires c =
    (omega arith, shown-room c.loop-s.invariant (omega arith) c.requires)

pub loop-s-smaller : goal.loop-s-smaller
unfolding slot_count
loop-s-smaller c = omega arith

pub loop-s-preserved : goal.loop-s-preserved
unfolding slot_count
loop-s-preserved c =
    shown-next c.loop-s.invariant (omega arith) c.write_slot-on.ensures.0 c.write_slot-on.ensures.1

pub returns : goal.returns
unfolding slot_count
returns c = shown-all c.loop-s.invariant (omega arith)
