use Rattle.words.specs.Reading.{table_of}
use Rattle.buffers.specs.Text.{Wrote}
use Rattle.listing.specs.Lines.{lines_below}
use Rattle.listing.proofs.write_listing.Given as goal

abbrev pub invariant-loop-s : goal.invariant-loop-s
invariant-loop-s l = Wrote l.initial.buffer l.at (lines_below (table_of l.t) l.s) l.buffer l.on
