-- What was recorded of a list of calls, and when the definitions agree with it.
use Rattle.std.specs.Prelude.{ℕ, suc, Bool, true, ◌&&◌, cond, List, [], ◌∷◌, ◌++◌}
use Prim.Native.String.{String}
use Rattle.rules.specs.Model.{Table, fresh}
use Rattle.rules.specs.Listing.{bytes}
use Rattle.lines.specs.Words.{same}
use Rattle.lines.specs.Meaning.{means}
use Rattle.desk.specs.Desk.{table_after, text_for}

-- a line of lane's input, and the lines that came back
pub record Reply : Type 0 where
  pub line : String
  pub back : List String

abbrev pub reply : String → String → Reply
reply line back = record { line = line; back = back ∷ [] }

unfoldable pub text_of : List String → List ℕ
text_of [] = []
text_of (l ∷ ls) = bytes l ++ bytes "\n" ++ text_of ls

-- from this table, line n being the next: each text is the one that came back, byte for byte
unfoldable pub right : Table → ℕ → List Reply → Bool
right t n [] = true
right t n (r ∷ rs) = let m = means (bytes r.line) in same (text_for t n m) (text_of r.back) && right (table_after t m) (suc n) rs

-- the places, from i on, of the lists that are not as recorded
unfoldable pub wrong : ℕ → List (List Reply) → List ℕ
wrong i [] = []
wrong i (l ∷ ls) = cond (right fresh 1 l) [] (i ∷ []) ++ wrong (suc i) ls
