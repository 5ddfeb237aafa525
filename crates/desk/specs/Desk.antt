-- A line answered: what it does to the table, and the text that comes back.
use Rattle.std.specs.Prelude.{ℕ, ◌+◌, ◌≤◌, ◌≡◌, cond, List, [], ◌++◌, Ok, Err}
use Rattle.rules.specs.declared.Refusal.TheVariants.{NoRoom}
use Rattle.rules.specs.declared.Grant.TheVariants.{Done}
use Rattle.rules.specs.Model.{Table, fresh}
use Rattle.rules.specs.Listing.{bytes, listing, fits_in}
use Rattle.rules.specs.Runs.{Call, step}
use Rattle.promises.specs.Order.Sound.{Sound}
use Rattle.buffers.specs.Text.{Wrote}
use Rattle.pieces.specs.Pieces.{field}
use Rattle.texts.specs.Texts.{answer_text, answer_top}
use Rattle.shows.specs.Shows.{show_text, show_top}
use Rattle.lines.specs.declared.Why.{Why}
use Rattle.lines.specs.declared.Why.TheVariants.{UnknownWord, TooFew, TooMany, NotANumber, TooLarge, NotAChoice, NotAName, TooLong}
use Rattle.lines.specs.Meaning.{Meaning, passed, called, listed, shows, renews, misread}

unfoldable pub why_text : Why → List ℕ
why_text UnknownWord = bytes "unknown command"
why_text TooFew = bytes "an argument is missing"
why_text TooMany = bytes "a word too many"
why_text NotANumber = bytes "not a number"
why_text TooLarge = bytes "the number is too large"
why_text NotAChoice = bytes "not yes or no, or not a wish"
why_text NotAName = bytes "not two hex digits for each byte"
why_text TooLong = bytes "over 255 bytes"

unfoldable pub misread_text : ℕ → Why → List ℕ
misread_text number why = field "? line " number ++ bytes ": " ++ why_text why ++ bytes "\n"

-- ---- a line with this number, by what it means
unfoldable pub table_after : Table → Meaning → Table
table_after t (called c) = (step t c).table
table_after t renews = fresh
table_after t passed = t
table_after t (listed room) = t
table_after t shows = t
table_after t (misread why) = t

unfoldable pub text_for : Table → ℕ → Meaning → List ℕ
text_for t number passed = []
text_for t number (called c) = answer_text (step t c).answer
text_for t number (listed room) = cond (fits_in t room) (listing t) (answer_text (Err NoRoom))
text_for t number shows = show_text t
text_for t number renews = answer_text (Ok Done)
text_for t number (misread why) = misread_text number why

-- at the longest: the reason by itself; a label, 20 digits, the reason and the ends; all slots in use shown
abbrev pub why_top : ℕ
why_top = 32

abbrev pub misread_top : ℕ
misread_top = 30 + why_top

abbrev pub desk_top : ℕ
desk_top = show_top

-- a call was made, and its answer written
pub record Performed (c : Call) (t u : Table) (b : List ℕ) (at : ℕ) (d : List ℕ) (end : ℕ) : Type 0 where
  pub table : u ≡ (step t c).table
  pub text : Wrote b at (answer_text (step t c).answer) d end
  pub within : end ≤ at + answer_top
  pub sound : Sound u

pub record Answered (t : Table) (number : ℕ) (m : Meaning) (u : Table) (b : List ℕ) (at : ℕ) (d : List ℕ) (end : ℕ) : Type 0 where
  pub table : u ≡ table_after t m
  pub text : Wrote b at (text_for t number m) d end
  pub within : end ≤ at + desk_top
  pub sound : Sound u
