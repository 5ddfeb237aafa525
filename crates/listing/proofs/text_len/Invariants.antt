use Rattle.std.proofs.Common.{◌*◌, ◌≤◌, ◌≡◌, length}
use Rattle.rules.specs.Sizes.{line_top}
use Rattle.words.specs.Reading.{table_of}
use Rattle.listing.specs.Lines.{lines_below}
use Rattle.listing.proofs.text_len.Given as goal

abbrev pub invariant-loop-s : goal.invariant-loop-s
invariant-loop-s l = (l.n ≡ length (lines_below (table_of l.t) l.s)) × (l.n ≤ l.s * line_top)
