-- A session: the input byte by byte, cut into lines, and what is answered.
use Rattle.std.specs.Prelude.{ℕ, ◌+◌, ◌%◌, ◌^◌, cond, List, [], ◌∷◌, ◌++◌, length, ◌==◌, nat_lt}
use Rattle.rules.specs.Model.{Table, fresh}
use Rattle.lines.specs.declared.Why.TheVariants.{TooLong}
use Rattle.lines.specs.Meaning.{Meaning, misread, means}
use Rattle.desk.specs.Desk.{table_after, text_for}

-- in bytes
abbrev pub longest_line : ℕ
longest_line = 255

abbrev pub newline : ℕ
newline = 10

-- the line is the one so far, the number that of the line before it; said is all that was answered
pub record Seat : Type 0 where
  pub table : Table
  pub line : List ℕ
  pub number : ℕ
  pub said : List ℕ

unfoldable pub line_means : List ℕ → Meaning
line_means l = cond (nat_lt longest_line (length l)) (misread TooLong) (means l)

-- numbers are words, and go round
unfoldable pub ended : Seat → Seat
ended s =
    let m = line_means s.line in
    let n = (s.number + 1) % 2 ^ 64 in
    record { table = table_after s.table m; line = []; number = n; said = s.said ++ text_for s.table n m }

-- once a line is too long it stays so, and grows no more
unfoldable pub kept : List ℕ → ℕ → List ℕ
kept l b = cond (nat_lt longest_line (length l)) l (l ++ (b ∷ []))

abbrev pub lengthened : Seat → ℕ → Seat
lengthened s b = record { table = s.table; line = kept s.line b; number = s.number; said = s.said }

unfoldable pub heard : Seat → ℕ → Seat
heard s b = cond (b == newline) (ended s) (lengthened s b)

unfoldable pub hears : Seat → List ℕ → Seat
hears s [] = s
hears s (b ∷ l) = hears (heard s b) l

-- a last line counts without its newline
unfoldable pub closed : Seat → Seat
closed s = cond (length s.line == 0) s (ended s)

-- ---- from the start to the end
unfoldable pub opened : Seat
opened = record { table = fresh; line = []; number = 0; said = [] }

unfoldable pub answers_to : List ℕ → List ℕ
answers_to input = (closed (hears opened input)).said
