-- What a word is worth as an argument, or why nothing.
use Rattle.std.specs.Prelude.{ℕ, ◌+◌, ◌-◌, ◌*◌, ◌%◌, ◌^◌, Bool, true, cond, not, ◌&&◌, List, [], ◌∷◌, length, get_or, take, drop, eqb, leb, ltb, Option, Some, None, Result, Ok, Err}
use Prim.Native.Char.{code}
use Rattle.rules.specs.Listing.{bytes}
use Rattle.promises.specs.Laws.Digits.{value_of}
use Rattle.lines.specs.declared.Why.{Why}
use Rattle.lines.specs.declared.Why.TheVariants.{TooFew, NotANumber, TooLarge, NotAName}
use Rattle.rules.specs.declared.Wish.{Wish}
use Rattle.rules.specs.declared.Wish.TheVariants.{NotWanted, Writable, Unwritable}
use Rattle.lines.specs.Words.{same}
use Rattle.lines.specs.Kinds.{a_count, a_flag, a_wish, a_name, a_room}

-- ---- digits
unfoldable pub inside : ℕ → ℕ → ℕ → Bool
inside low high b = leb low b && leb b high

-- 16 is no digit
unfoldable pub nibble : ℕ → ℕ
nibble b =
    cond (inside (code "0") (code "9") b) (b - code "0")
    (cond (inside (code "A") (code "F") b) (b - code "A" + 10) (cond (inside (code "a") (code "f") b) (b - code "a" + 10) 16))

unfoldable pub all_below : ℕ → List ℕ → Bool
all_below base [] = true
all_below base (b ∷ l) = ltb (nibble b) base && all_below base l

-- ---- a number: decimal digits, at least one, below 2^64
unfoldable pub limited : ℕ → Result ℕ Why
limited n = cond (ltb n (2 ^ 64)) (Ok n) (Err TooLarge)

unfoldable pub number_in : List ℕ → Result ℕ Why
number_in w = cond (not (eqb (length w) 0) && all_below 10 w) (limited (value_of w)) (Err NotANumber)

-- ---- a count: a number with or without a minus sign, as a word in two's complement
unfoldable pub and_then : Result ℕ Why → (ℕ → Result ℕ Why) → Result ℕ Why
and_then (Ok n) f = f n
and_then (Err why) f = Err why

unfoldable pub positive : ℕ → Result ℕ Why
positive n = cond (ltb n (2 ^ 63)) (Ok n) (Err TooLarge)

unfoldable pub negative : ℕ → Result ℕ Why
negative n = cond (leb n (2 ^ 63)) (Ok (cond (eqb n 0) 0 (2 ^ 64 - n))) (Err TooLarge)

unfoldable pub count_in : List ℕ → Result ℕ Why
count_in w = cond (eqb (get_or w 0 0) (code "-")) (and_then (number_in (drop 1 w)) negative) (and_then (number_in w) positive)

-- ---- a flag, a wish, as a call's word has them; one more than the last is none
abbrev pub flag_word : Option Bool → ℕ
flag_word None = 2
flag_word (Some b) = cond b 1 0

abbrev pub wish_word : Option Wish → ℕ
wish_word None = 3
wish_word (Some NotWanted) = 0
wish_word (Some Writable) = 1
wish_word (Some Unwritable) = 2

unfoldable pub flag_in : List ℕ → Result ℕ Why
flag_in w = Ok (cond (same w (bytes "yes")) 1 (cond (same w (bytes "no")) 0 2))

unfoldable pub wish_in : List ℕ → Result ℕ Why
wish_in w = Ok (cond (same w (bytes "not-wanted")) 0 (cond (same w (bytes "writable")) 1 (cond (same w (bytes "unwritable")) 2 3)))

-- ---- a name: the word itself, or after `hex:` two hexadecimal digits for each byte; it is worth its length
unfoldable pub is_hex : List ℕ → Bool
is_hex w = same (take 4 w) (bytes "hex:")

unfoldable pub unhex : List ℕ → List ℕ
unhex [] = []
unhex (a ∷ []) = []
unhex (a ∷ b ∷ l) = (16 * nibble a + nibble b) ∷ unhex l

unfoldable pub name_good : List ℕ → Bool
name_good w = cond (is_hex w) (eqb (length w % 2) 0 && all_below 16 (drop 4 w)) true

unfoldable pub name_bytes : List ℕ → List ℕ
name_bytes w = cond (is_hex w) (unhex (drop 4 w)) w

unfoldable pub name_worth : List ℕ → Result ℕ Why
name_worth w = cond (name_good w) (Ok (length (name_bytes w))) (Err NotAName)

-- ---- by its kind; a room is a number
unfoldable pub value_in : ℕ → List ℕ → Result ℕ Why
value_in kind w = cond (eqb kind a_count) (count_in w) (cond (eqb kind a_flag) (flag_in w) (cond (eqb kind a_wish) (wish_in w) (cond (eqb kind a_name) (name_worth w) (number_in w))))

-- an argument that isn't there: only a room may be left out, and is then as large as can be
unfoldable pub argument_in : ℕ → List ℕ → Result ℕ Why
argument_in kind w = cond (ltb 0 (length w)) (value_in kind w) (cond (eqb kind a_room) (Ok (2 ^ 64 - 1)) (Err TooFew))
