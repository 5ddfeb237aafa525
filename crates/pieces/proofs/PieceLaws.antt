-- A number with its sign, and hex digits, as the code writes them.
use Prim.Native.Nat.{ℕ, ◌+◌, ◌/◌, ◌%◌, ◌<◌}
use native.Mathlib.Numerals.{add-one}
use mathlib.Core.Path.{◌≡◌, refl, ap}
use mathlib.Core.Bool.{true, false}
use Rattle.std.proofs.Common.{ltb-true, arith}
use mathlib.Core.List.{List, [], ◌∷◌, ◌++◌}
use lib.ListN.{length, take, get_or}
use lib.Seq.{take-suc}
use lib.IntN.{ℤ, pos, negsuc, nat_abs}
use lib.Signed.{lt_z}
use Rattle.rules.specs.Listing.{bytes, digits}
use Rattle.pieces.specs.Pieces.{signed_digits, hex_digit, hex_text}

-- ---- a number with its sign
pub below_zero : (x : ℤ) → lt_z x (pos 0) ≡ true → 45 ∷ digits (nat_abs x) ≡ signed_digits x
unfolding signed_digits bytes
below_zero (pos n) e = absurd (omega (arith, ltb-true n 0 e))
below_zero (negsuc n) e = refl

pub from_zero : (x : ℤ) → lt_z x (pos 0) ≡ false → digits (nat_abs x) ≡ signed_digits x
unfolding signed_digits
from_zero (pos n) e = refl
from_zero (negsuc n) e = cc

-- ---- two digits for each byte
hex-append : (l m : List ℕ) → hex_text (l ++ m) ≡ hex_text l ++ hex_text m
unfolding hex_text
hex-append [] m = refl
hex-append (x ∷ l) m = ap (λ (k : List ℕ). hex_digit (x / 16) ∷ hex_digit (x % 16) ∷ k) (hex-append l m)

pub hex-more : (l : List ℕ) (i : ℕ) → i < length l → hex_text (take (i + 1) l) ≡ hex_text (take i l) ++ (hex_digit (get_or l i 0 / 16) ∷ hex_digit (get_or l i 0 % 16) ∷ [])
unfolding hex_text
hex-more l i h = rw (add-one, take-suc l i 0 h) (hex-append (take i l) (get_or l i 0 ∷ []))
