use Rattle.shows.proofs.SlotsLaws.{Shown}
use Rattle.words.specs.Reading.{table_of}
use Rattle.rules.specs.Sizes.{slot_count}
use Rattle.std.proofs.Common.{◌-◌}
use Rattle.shows.proofs.write_slots.Given as goal

abbrev pub invariant-loop-s : goal.invariant-loop-s
invariant-loop-s l = Shown (table_of l.t) l.initial.out l.at l.s l.out l.on

abbrev pub decreases-loop-s : goal.decreases-loop-s
decreases-loop-s l = slot_count - l.s
