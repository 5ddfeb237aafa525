use Rattle.shows.proofs.ShowLaws.{Listed}
use Rattle.pieces.specs.Pieces.{place_text}
use Rattle.words.specs.Reading.{table_of}
use Rattle.rules.specs.Listing.{bytes}
use Rattle.rules.specs.Sizes.{hart_count}
use Rattle.std.proofs.Common.{◌-◌}
use Rattle.shows.proofs.head.write_harts.Given as goal

abbrev pub invariant-loop-hart : goal.invariant-loop-hart
invariant-loop-hart l = Listed place_text (bytes " harts ") (table_of l.t).core.harts l.initial.out l.initial.on l.hart l.out l.on

abbrev pub decreases-loop-hart : goal.decreases-loop-hart
decreases-loop-hart l = hart_count - l.hart
