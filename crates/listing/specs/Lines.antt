-- The listing, piece by piece.
use Rattle.std.specs.Prelude.{ℕ, cond, List, [], ◌++◌, take}
use Rattle.rules.specs.declared.ProcState.{ProcState}
use Rattle.rules.specs.declared.ProcState.TheVariants.{UNUSED}
use Rattle.rules.specs.declared.Process.{Process}
use Rattle.rules.specs.Model.{Table, is, at}
use Rattle.rules.specs.Listing.{bytes, digits, state_text, line_of, lines_of}
use Rattle.names.specs.Names.{name_shown}

-- the three pieces of a line
unfoldable pub pid_text : ℕ → List ℕ
pid_text n = bytes "pid: " ++ digits n

unfoldable pub state_labelled : ProcState → List ℕ
state_labelled s = bytes " state: " ++ state_text s

unfoldable pub name_labelled : List ℕ → List ℕ
name_labelled name = bytes " name: " ++ name_shown name ++ bytes "\n"

-- what a slot adds
unfoldable pub shown_line : Process → List ℕ
shown_line p = cond (is UNUSED p) [] (line_of p)

unfoldable pub line_at : Table → ℕ → List ℕ
line_at t s = shown_line (at t.core s)

-- the lines of the slots below s
unfoldable pub lines_below : Table → ℕ → List ℕ
lines_below t s = lines_of (take s t.core.slots)
