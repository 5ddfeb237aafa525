-- An answer in three words.
use Rattle.std.specs.Prelude.{ℕ, suc, ◌-◌, ◌^◌, List, [], ◌∷◌, ◌++◌, map, take, ℤ, pos, negsuc}
use Rattle.rules.specs.Types.{Answer}
use Rattle.rules.specs.Answers.{values_of}

-- a number, in two's complement of 64 bits if it is below 0
unfoldable pub word_of : ℤ → ℕ
word_of (pos n) = n
word_of (negsuc n) = 2 ^ 64 - suc n

abbrev pub answer_words : ℕ
answer_words = 3

-- its numbers, and 0 for what is left of the three
unfoldable pub coded : Answer → List ℕ
coded a = take answer_words (map word_of (values_of a) ++ (0 ∷ 0 ∷ []))

-- answers in a row
unfoldable pub codes : List Answer → List ℕ
codes [] = []
codes (a ∷ l) = coded a ++ codes l
