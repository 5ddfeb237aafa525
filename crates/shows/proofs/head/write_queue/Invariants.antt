use Rattle.shows.proofs.ShowLaws.{Listed}
use Rattle.words.specs.Reading.{table_of}
use Rattle.rules.specs.Listing.{bytes, digits}
use Rattle.std.proofs.Common.{◌-◌}
use Rattle.shows.proofs.head.write_queue.Given as goal

abbrev pub invariant-loop-i : goal.invariant-loop-i
invariant-loop-i l = Listed digits (bytes " queue ") (table_of l.t).core.queue l.initial.out l.initial.on l.i l.out l.on

abbrev pub decreases-loop-i : goal.decreases-loop-i
decreases-loop-i l = l.n - l.i
