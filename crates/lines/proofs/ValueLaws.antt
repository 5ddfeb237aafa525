-- What a word is worth, as the code finds it.
use Rattle.std.specs.Prelude.{Result, Ok, Err, Option, Some, None, MatchOption}
use Rattle.std.specs.Char.{digit_value, is_digit}
use Rattle.std.specs.Int.{from_bool}
use Rattle.std.specs.Simd.{first_chunks}
use Rattle.std.specs.List.{list_all}
use Prim.Native.Nat.{ℕ, zero, suc, ◌+◌, ◌-◌, ◌*◌, ◌/◌, ◌%◌, ◌^◌, ◌≤◌, ◌<◌}
use Prim.Native.Char.{code}
use native.Mathlib.Omega.{arith}
use mathlib.Core.Path.{◌≡◌, refl, sym, ap, ◌∙◌}
use mathlib.Core.Bool.{Bool, true, false, cond, not, ◌&&◌}
use mathlib.Core.Logic.{◌⊎◌, inl, inr}
use mathlib.Core.List.{List, [], ◌∷◌}
use lib.ListN.{length, get_or, set, take, drop, length-set, drop_of_length-le}
use lib.Seq.{drop-cons, take-length, paste, paste-zero, paste-suc}
use lib.Dec.{ltb, eqb}
use borrow.Author.Tests.{lt-leb, le-leb, lt-ltb, le-ltb, ltb-true, ltb-false, eq-eqb, ne_eqb, eqb-true}
use Rattle.std.proofs.lemmas.Bool.Decides.{nat_tests}
use Rattle.std.specs.Cmp.Lexicographic.{pointwise}
use Rattle.std.proofs.lemmas.Str.Parse.{digit_from_value}
use Rattle.rules.specs.Listing.{bytes}
use Rattle.buffers.specs.Text.{put, Wrote}
use Rattle.promises.specs.Laws.Bools.{and_left, and_right, clash}
use Rattle.promises.specs.Laws.Digits.{read_on, value_of}
use denote.Enum.Declared.{tag_of}
use Rattle.rules.specs.contracts.Wish.{the_type}
use Rattle.rules.specs.declared.Wish.{Wish}
use Rattle.rules.specs.declared.Wish.TheVariants.{NotWanted, Writable, Unwritable}
use Rattle.lines.specs.declared.value.Kind.{Kind}
use Rattle.lines.specs.declared.value.Kind.TheVariants.{Number, Count, Flag, Wish as AWish, Name, Room}
use Rattle.lines.specs.declared.Why.{Why}
use Rattle.lines.specs.declared.Why.TheVariants.{NotANumber, TooLarge, NotAName, TooFew}
use Rattle.lines.specs.Values.{inside, nibble, all_below, limited, number_in, and_then, positive, negative, count_in, is_hex, unhex, name_good, name_bytes, name_worth, flag_word, wish_word, value_in, argument_in}
use Rattle.lines.specs.Kinds.{letter, a_room}
use Rattle.lines.proofs.WordLaws.{same-pointwise}

-- ---- digits
nibble-digit : (b : ℕ) → nibble b ≡ cond (ltb (digit_value b) 16) (digit_value b) 16
unfolding nibble inside
nibble-digit b = grind (arith, nat_tests)

pub digit-is : (b : ℕ) → nibble b < 16 → digit_value b ≡ nibble b
digit-is b h = go (ltb (digit_value b) 16) refl
  where
    go : (c : Bool) → ltb (digit_value b) 16 ≡ c → digit_value b ≡ nibble b
    go true e = sym (nibble-digit b ∙ rw e)
    go false e = let f : nibble b ≡ 16 = nibble-digit b ∙ rw e in absurd (omega arith)

below-same : (base b : ℕ) → base ≤ 16 → is_digit b base ≡ ltb (nibble b) base
below-same base b h = go (ltb (digit_value b) 16) refl
  where
    go : (c : Bool) → ltb (digit_value b) 16 ≡ c → is_digit b base ≡ ltb (nibble b) base
    go true e = ap (λ (n : ℕ). ltb n base) (digit-is b (let f : nibble b ≡ digit_value b = nibble-digit b ∙ rw e in omega (arith, ltb-true _ _ e)))
    go false e = let f : nibble b ≡ 16 = nibble-digit b ∙ rw e in rw (f, le-ltb (digit_value b) base (omega (arith, ltb-false _ _ e)), le-ltb 16 base h)

pub digits-below : (base : ℕ) (w : List ℕ) → base ≤ 16 → list_all (λ b. is_digit b base) w ≡ all_below base w
unfolding all_below
digits-below base [] h = refl
digits-below base (b ∷ w) h = rw (below-same base b h, digits-below base w h)

pub digit-at : (w : List ℕ) (j : ℕ) → list_all (λ b. is_digit b 10) w ≡ true → j < length w → (48 ≤ get_or w j 0) × (get_or w j 0 ≤ 57)
digit-at [] j e h = absurd (omega arith)
digit-at (b ∷ w) zero e h = digit_from_value b (ltb-true (digit_value b) 10 (and_left _ _ e))
digit-at (b ∷ w) (suc j) e h = digit-at w j (and_right (is_digit b 10) _ e) (omega arith)

below_at : (base : ℕ) (w : List ℕ) (j : ℕ) → all_below base w ≡ true → j < length w → nibble (get_or w j 0) < base
unfolding all_below
below_at base [] j e h = absurd (omega arith)
below_at base (b ∷ w) zero e h = ltb-true (nibble b) base (and_left _ _ e)
below_at base (b ∷ w) (suc j) e h = below_at base w j (and_right (ltb (nibble b) base) _ e) (omega arith)

-- ---- a number, digit by digit
read_more : (a : ℕ) (l : List ℕ) → a ≤ read_on a l
unfolding read_on
read_more a [] = omega arith
read_more a (x ∷ l) = let h = read_more (10 * a + (x - 48)) l in omega (arith, h)

module _ (w : List ℕ) (n j : ℕ) (h : j < length w) where
  pub read-on : read_on n (drop j w) ≡ read_on (10 * n + (get_or w j 0 - 48)) (drop (j + 1) w)
  unfolding read_on
  read-on = let z : j + 1 ≡ suc j = omega arith in rw (z, drop-cons w j 0 h)

  pub read-large : (10 * n + (get_or w j 0 - 48) < 2 ^ 64 → ⊥) → 2 ^ 64 ≤ read_on n (drop j w)
  read-large l = rw read-on (omega (arith, read_more (10 * n + (get_or w j 0 - 48)) (drop (j + 1) w)))

pub read-end : (w : List ℕ) (n j : ℕ) → length w ≤ j → read_on n (drop j w) ≡ n
unfolding read_on
read-end w n j h = rw (drop_of_length-le w h)

-- ---- the number
module _ (w : List ℕ) where
  pub no_digit : eqb (length w) 0 ≡ true → Err NotANumber ≡ number_in w
  unfolding number_in
  no_digit e = rw e

  pub not-digits : list_all (λ b. is_digit b 10) w ≡ false → Err NotANumber ≡ number_in w
  unfolding number_in
  not-digits e = let f : all_below 10 w ≡ false = sym (digits-below 10 w (omega arith)) ∙ e in rw f (go (not (eqb (length w) 0)))
    where
      go : (b : Bool) → Err NotANumber ≡ cond (b && false) (limited (value_of w)) (Err NotANumber)
      go true = refl
      go false = refl

  module _ (l : eqb (length w) 0 ≡ false) (e : list_all (λ b. is_digit b 10) w ≡ true) where
    digits_are : number_in w ≡ limited (value_of w)
    unfolding number_in
    digits_are = let f : all_below 10 w ≡ true = sym (digits-below 10 w (omega arith)) ∙ e in rw (l, f)

    pub too_large : 2 ^ 64 ≤ read_on 0 w → Err TooLarge ≡ number_in w
    unfolding limited value_of
    too_large h = rw (digits_are, le-ltb (read_on 0 w) (2 ^ 64) h)

    pub number_is : {n : ℕ} → read_on 0 w ≡ n → n < 2 ^ 64 → Ok n ≡ number_in w
    unfolding limited value_of
    number_is {n} f h = rw (digits_are, f, lt-ltb n (2 ^ 64) h)

-- ---- a count
pub not-negated : (n : ℕ) → (n ≤ 2 ^ 63 → ⊥) → Err TooLarge ≡ negative n
unfolding negative
not-negated n h = rw (lt-leb n (2 ^ 63) (omega arith))

pub negated : (n r : ℕ) → n ≤ 2 ^ 63 → r < 2 ^ 64 → (r + n) % 2 ^ 64 ≡ 0 → Ok r ≡ negative n
unfolding negative
negated zero r h b e = ap Ok (omega arith)
negated (suc n) r h b e = rw (le-leb (suc n) (2 ^ 63) h, ne_eqb (suc n) 0 (λ z. absurd (omega arith))) (ap Ok (omega arith))

pub then_is : (f : ℕ → Result ℕ Why) {v : Result ℕ Why} {n : ℕ} → Ok n ≡ v → f n ≡ and_then v f
unfolding and_then
then_is f e = ap (λ (x : Result ℕ Why). and_then x f) e

pub then-no : (f : ℕ → Result ℕ Why) {v : Result ℕ Why} {y : Why} → Err y ≡ v → Err y ≡ and_then v f
unfolding and_then
then-no f e = ap (λ (x : Result ℕ Why). and_then x f) e

module _ (w : List ℕ) where
  minus-first : pointwise eqb (take 1 w) (code "-" ∷ []) ≡ eqb (get_or w 0 0) (code "-")
  minus-first = go w
    where
      go : (l : List ℕ) → pointwise eqb (take 1 l) (code "-" ∷ []) ≡ eqb (get_or l 0 0) (code "-")
      go [] = refl
      go (x ∷ l) = both (eqb x (code "-"))
        where
          both : (b : Bool) → (b && true) ≡ b
          both true = refl
          both false = refl

  pub minus-count : pointwise eqb (take 1 w) (code "-" ∷ []) ≡ true → {l : List ℕ} → l ≡ drop 1 w → {r : Result ℕ Why} → r ≡ and_then (number_in l) negative → r ≡ count_in w
  unfolding count_in
  minus-count e k f = f ∙ rw (k, sym minus-first ∙ e)

  pub plain-count : pointwise eqb (take 1 w) (code "-" ∷ []) ≡ false → {r : Result ℕ Why} → r ≡ and_then (number_in w) positive → r ≡ count_in w
  unfolding count_in
  plain-count e f = f ∙ rw (sym minus-first ∙ e)

-- ---- names
unhex-length : (l : List ℕ) → length (unhex l) ≡ length l / 2
unfolding unhex
unhex-length [] = refl
unhex-length (a ∷ []) = refl
unhex-length (a ∷ b ∷ l) = omega (arith, unhex-length l)

module _ (w : List ℕ) where
  pub hex-is : is_hex w ≡ pointwise eqb (take 4 w) (104 ∷ 101 ∷ 120 ∷ 58 ∷ [])
  unfolding is_hex bytes
  hex-is = sym (same-pointwise (take 4 w) _)

  pub plain-name : is_hex w ≡ false → Ok (length w) ≡ name_worth w
  unfolding name_worth name_good name_bytes
  plain-name e = rw e

  module _ (e : is_hex w ≡ true) {l : List ℕ} (k : l ≡ drop 4 w) (n : length l + 4 ≡ length w) where
    hex-size : name_worth w ≡ cond (eqb (length w % 2) 0 && all_below 16 l) (Ok (length (unhex l))) (Err NotAName)
    unfolding name_worth name_good name_bytes
    hex-size = rw (e, k)

    pub odd-hex : (length l % 2 ≡ 0 → ⊥) → Err NotAName ≡ name_worth w
    odd-hex f = rw (hex-size, ne_eqb (length w % 2) 0 (λ z. f (omega arith)))

    pub bad-hex : list_all (λ b. is_digit b 16) l ≡ false → Err NotAName ≡ name_worth w
    bad-hex f = rw (hex-size, sym (digits-below 16 l (omega arith)) ∙ f) (go (eqb (length w % 2) 0))
      where
        go : (b : Bool) → Err NotAName ≡ cond (b && false) (Ok (length (unhex l))) (Err NotAName)
        go true = refl
        go false = refl

    pub good-hex : length l % 2 ≡ 0 → list_all (λ b. is_digit b 16) l ≡ true → Ok (length l / 2) ≡ name_worth w
    good-hex h f = rw (hex-size, sym (digits-below 16 l (omega arith)) ∙ f, eq-eqb (length w % 2) 0 (omega arith), unhex-length l)

-- ---- by kinds
pub flag-worded : (o : Option Bool) {r : ℕ} → MatchOption o (r ≡ 2) (λ b. r ≡ from_bool b) → r ≡ flag_word o
flag-worded None e = e
flag-worded (Some true) e = e
flag-worded (Some false) e = e

pub wish-tag : (w : Wish) → tag_of the_type w ≡ wish_word (Some w)
wish-tag NotWanted = refl
wish-tag Writable = refl
wish-tag Unwritable = refl

module _ (k : Kind) (w : List ℕ) where
  pub number-worth : (k ≡ Number) ⊎ (k ≡ Room) → number_in w ≡ value_in (letter k) w
  unfolding value_in
  number-worth (inl e) = rw e
  number-worth (inr e) = rw e

  pub is-there : false ≡ eqb (length w) 0 → value_in (letter k) w ≡ argument_in (letter k) w
  unfolding argument_in
  is-there e = go (length w) e
    where
      go : (n : ℕ) → false ≡ eqb n 0 → value_in (letter k) w ≡ cond (ltb 0 n) (value_in (letter k) w) (cond (eqb (letter k) a_room) (Ok (2 ^ 64 - 1)) (Err TooFew))
      go zero e = absurd (clash e refl)
      go (suc n) e = rw (lt-ltb 0 (suc n) (omega arith))

  left-out : true ≡ eqb (length w) 0 → argument_in (letter k) w ≡ cond (eqb (letter k) a_room) (Ok (2 ^ 64 - 1)) (Err TooFew)
  unfolding argument_in
  left-out e = rw (eqb-true (length w) 0 (sym e))

  pub room-left : true ≡ eqb (length w) 0 → k ≡ Room → Ok (2 ^ 64 - 1) ≡ argument_in (letter k) w
  room-left e f = rw (left-out e, f)

  pub too-few : true ≡ eqb (length w) 0 → (k ≡ Room → ⊥) → Err TooFew ≡ argument_in (letter k) w
  too-few e f = rw (left-out e) (go k f)
    where
      go : (k : Kind) → (k ≡ Room → ⊥) → Err TooFew ≡ cond (eqb (letter k) a_room) (Ok (2 ^ 64 - 1)) (Err TooFew)
      go Number f = refl
      go Count f = refl
      go Flag f = refl
      go AWish f = refl
      go Name f = refl
      go Room f = absurd (f refl)

-- ---- the bytes of a hexadecimal name
unhex-at : (w : List ℕ) (j : ℕ) → j < length w / 2 → 16 * nibble (get_or w (2 * j) 0) + nibble (get_or w (2 * j + 1) 0) ≡ get_or (unhex w) j 0
unfolding unhex
unhex-at [] j h = absurd (omega arith)
unhex-at (a ∷ []) j h = absurd (omega arith)
unhex-at (a ∷ b ∷ w) zero h = refl
unhex-at (a ∷ b ∷ w) (suc j) h = let y : 2 * suc j ≡ suc (suc (2 * j)) = omega arith in let z : 2 * suc j + 1 ≡ suc (suc (2 * j + 1)) = omega arith in
    rw (z, y) (unhex-at w j (omega arith))

-- the code's pairs of digits
module _ (d : List ℕ) where
  first-digit : (k : ℕ) (w : List ℕ) (j : ℕ) → k ≤ length w / 2 → j < k → get_or (get_or (first_chunks 2 k w) j d) 0 0 ≡ get_or w (2 * j) 0
  first-digit zero w j h g = absurd (omega arith)
  first-digit (suc k) [] j h g = absurd (omega arith)
  first-digit (suc k) (a ∷ []) j h g = absurd (omega arith)
  first-digit (suc k) (a ∷ b ∷ w) zero h g = refl
  first-digit (suc k) (a ∷ b ∷ w) (suc j) h g = let y : 2 * suc j ≡ suc (suc (2 * j)) = omega arith in rw y (first-digit k w j (omega arith) (omega arith))

  second-digit : (k : ℕ) (w : List ℕ) (j : ℕ) → k ≤ length w / 2 → j < k → get_or (get_or (first_chunks 2 k w) j d) 1 0 ≡ get_or w (2 * j + 1) 0
  second-digit zero w j h g = absurd (omega arith)
  second-digit (suc k) [] j h g = absurd (omega arith)
  second-digit (suc k) (a ∷ []) j h g = absurd (omega arith)
  second-digit (suc k) (a ∷ b ∷ w) zero h g = refl
  second-digit (suc k) (a ∷ b ∷ w) (suc j) h g = let y : 2 * suc j + 1 ≡ suc (suc (2 * j + 1)) = omega arith in rw y (second-digit k w j (omega arith) (omega arith))

module _ (w : List ℕ) {pairs : List (List ℕ)} (e : pairs ≡ first_chunks 2 (length w / 2) w) (n : length pairs ≡ length w / 2) (j : ℕ) (h : j < length pairs) where
  pub first-is : get_or (get_or pairs j []) 0 0 ≡ get_or w (2 * j) 0
  first-is = rw e (first-digit [] (length w / 2) w j (omega arith) (omega arith))

  pub second-is : get_or (get_or pairs j []) 1 0 ≡ get_or w (2 * j + 1) 0
  second-is = rw e (second-digit [] (length w / 2) w j (omega arith) (omega arith))

  module _ (g : all_below 16 w ≡ true) where
    pub first-small : nibble (get_or (get_or pairs j []) 0 0) < 16
    first-small = rw first-is (below_at 16 w (2 * j) g (omega arith))

    pub second-small : nibble (get_or (get_or pairs j []) 1 0) < 16
    second-small = rw second-is (below_at 16 w (2 * j + 1) g (omega arith))

-- j bytes of them are in the buffer
pub record Unhexed (w b : List ℕ) (j : ℕ) (d : List ℕ) : Type 0 where
  pub few : j ≤ length w / 2
  pub long : length d ≡ length b
  pub there : d ≡ paste b 0 (unhex w) j

pub unhex-starts : (w b : List ℕ) → Unhexed w b 0 b
unhex-starts w b = record { few = omega arith; long = refl; there = paste-zero b 0 (unhex w) }

module _ {w b : List ℕ} {j : ℕ} {d : List ℕ} (u : Unhexed w b j d) where
  pub unhex-goes : {x y : ℕ} → x ≡ nibble (get_or w (2 * j) 0) → y ≡ nibble (get_or w (2 * j + 1) 0) → j < length w / 2 → length w ≤ length b → Unhexed w b (j + 1) (set d j (16 * x + y))
  unhex-goes {x} {y} e f h l = let z : j + 1 ≡ suc j = omega arith in let q : 0 + j ≡ j = omega arith in rw z record {
    few = h;
    long = length-set d j (16 * x + y) ∙ u.long;
    there = rw (e, f, unhex-at w j h, u.there) (ap (λ (k : ℕ). set (paste b 0 (unhex w) j) k (get_or (unhex w) j 0)) (sym q) ∙ paste-suc b 0 (unhex w) j 0 (omega arith) (omega (arith, unhex-length w)));
  }

  pub unhex-ends : length w / 2 ≤ j → length w ≤ length b → Wrote b 0 (unhex w) d (length w / 2)
  unfolding put
  unhex-ends h l = let z : j ≡ length (unhex w) = omega (arith, u.few, unhex-length w) in record {
    fits = omega (arith, unhex-length w);
    buffer = rw (u.there, z, take-length (unhex w));
    place = omega (arith, unhex-length w);
  }

-- ---- a name
module _ (w : List ℕ) (g : name_good w ≡ true) where
  pub hex-digits : is_hex w ≡ true → all_below 16 (drop 4 w) ≡ true
  unfolding name_good
  hex-digits e = and_right (eqb (length w % 2) 0) _ (sym (rw e) ∙ g)

pub hex-name : (w : List ℕ) → is_hex w ≡ true → name_bytes w ≡ unhex (drop 4 w)
unfolding name_bytes
hex-name w e = rw e

pub own_name : (w : List ℕ) → is_hex w ≡ false → name_bytes w ≡ w
unfolding name_bytes
own_name w e = rw e
