-- Pieces of a text.
use Rattle.std.specs.Prelude.{ℕ, suc, ◌+◌, ◌/◌, ◌%◌, Bool, cond, List, [], ◌∷◌, ◌++◌, ℤ, pos, negsuc, ltb, Option, Some, None}
use Rattle.rules.specs.declared.Slot.{Slot}
use Prim.Native.String as S
use Rattle.rules.specs.Listing.{bytes, digits}

-- a number below 2^64 has so many digits at most
abbrev pub number_top : ℕ
number_top = 20

unfoldable pub signed_digits : ℤ → List ℕ
signed_digits (pos n) = digits n
signed_digits (negsuc n) = bytes "-" ++ digits (suc n)

unfoldable pub flag_text : Bool → List ℕ
flag_text b = cond b (bytes "1") (bytes "0")

unfoldable pub place_text : Option Slot → List ℕ
place_text None = bytes "-"
place_text (Some s) = digits s.0

unfoldable pub hex_digit : ℕ → ℕ
hex_digit n = cond (ltb n 10) (48 + n) (87 + n)

unfoldable pub hex_text : List ℕ → List ℕ
hex_text [] = []
hex_text (x ∷ l) = hex_digit (x / 16) ∷ hex_digit (x % 16) ∷ hex_text l

-- ---- with a label
unfoldable pub field : S.String → ℕ → List ℕ
field label n = bytes label ++ digits n

unfoldable pub flag : S.String → Bool → List ℕ
flag label b = bytes label ++ flag_text b

unfoldable pub place : S.String → Option Slot → List ℕ
place label p = bytes label ++ place_text p
