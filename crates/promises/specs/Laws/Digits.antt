-- The decimal digits of the listing: at most 20, each a digit, saying the number, with no zero in front.
use Rattle.std.specs.Prelude.{ℕ, zero, suc, ◌+◌, ◌-◌, ◌*◌, ◌/◌, ◌%◌, ◌^◌, ◌≤◌, ◌<◌, ◌≡◌, refl, ◌≢◌, Bool, true, false, List, [], ◌∷◌, ◌++◌, length, get_or, ltb}
use Rattle.std.proofs.Common.{arith, not-suc-le-zero, length-append, ltb-true, ltb-false}
use Rattle.rules.specs.Listing.{digits_in, digits}

-- the one split of digits_in: no digit left to write, the first one, or one behind the others
digits-ind : (P : ℕ → ℕ → List ℕ → Type 0)
    → ((n : ℕ) → P 0 n [])
    → ((k n : ℕ) → n < 10 → P (suc k) n ((48 + n) ∷ []))
    → ((k n : ℕ) (l : List ℕ) → 10 ≤ n → P k (n / 10) l → P (suc k) n (l ++ ((48 + n % 10) ∷ [])))
    → (k n : ℕ) → P k n (digits_in k n)
unfolding digits_in
digits-ind P none one more zero n = none n
digits-ind P none one more (suc k) n = go (ltb n 10) refl (digits-ind P none one more k (n / 10))
  where
    go : (b : Bool) → ltb n 10 ≡ b → P k (n / 10) (digits_in k (n / 10)) → P (suc k) n (digits_in (suc k) n)
    go true e h = rw (e, digits_in) (one k n (ltb-true n 10 e))
    go false e h = rw (e, digits_in) (more k n (digits_in k (n / 10)) (ltb-false n 10 e) h)

-- ---- at most 20
pub digits-length : (n : ℕ) → length (digits n) ≤ 20
unfolding digits
digits-length = digits-ind (λ k n l. length l ≤ k) (λ n. omega arith) (λ k n s. omega arith)
    (λ k n l s h. omega (arith, length-append l ((48 + n % 10) ∷ []))) 20

-- ---- each a digit
pub record IsDigit (b : ℕ) : Type 0 where
  pub low : 48 ≤ b
  pub high : b ≤ 57

AllDigits : List ℕ → Type 0
AllDigits l = (i : ℕ) → i < length l → IsDigit (get_or l i 0)

no-digits : AllDigits []
unfolding AllDigits
no-digits i r = absurd (not-suc-le-zero r)

snoc-digit : (l : List ℕ) (x : ℕ) → AllDigits l → IsDigit x → AllDigits (l ++ (x ∷ []))
unfolding AllDigits
snoc-digit [] x f d zero r = d
snoc-digit [] x f d (suc i) r = absurd (omega arith)
snoc-digit (y ∷ l) x f d zero r = f zero (omega arith)
snoc-digit (y ∷ l) x f d (suc i) r = snoc-digit l x (λ j s. f (suc j) (omega arith)) d i (omega arith)

pub digits_are : (n i : ℕ) → i < length (digits n) → IsDigit (get_or (digits n) i 0)
unfolding digits AllDigits
digits_are = digits-ind (λ k n l. AllDigits l) (λ n. no-digits) (λ k n s. snoc-digit [] (48 + n) no-digits (omega arith))
    (λ k n l s h. snoc-digit l (48 + n % 10) h (omega arith)) 20

-- ---- saying the number; read_on goes on from a
unfoldable pub read_on : ℕ → List ℕ → ℕ
read_on a [] = a
read_on a (x ∷ l) = read_on (10 * a + (x - 48)) l

unfoldable pub value_of : List ℕ → ℕ
value_of l = read_on 0 l

read-snoc : (a : ℕ) (l : List ℕ) (x : ℕ) → read_on a (l ++ (x ∷ [])) ≡ 10 * read_on a l + (x - 48)
unfolding read_on
read-snoc a [] x = refl
read-snoc a (y ∷ l) x = read-snoc (10 * a + (y - 48)) l x

pub digits_value : (n : ℕ) → n < 10 ^ 20 → value_of (digits n) ≡ n
unfolding digits value_of read_on
digits_value = digits-ind (λ k n l. n < 10 ^ k → read_on 0 l ≡ n) (λ n s. omega arith) (λ k n s m. omega arith)
    (λ k n l s h m. omega (arith, h (omega arith), read-snoc 0 l (48 + n % 10))) 20

-- ---- no zero in front, but for zero itself
pub digits-zero : digits 0 ≡ 48 ∷ []
unfolding digits digits_in
digits-zero = refl

first-kept : (l m : List ℕ) → 0 < get_or l 0 0 → get_or (l ++ m) 0 0 ≡ get_or l 0 0
first-kept [] m h = absurd (not-suc-le-zero h)
first-kept (x ∷ l) m h = refl

first-digit : (n : ℕ) → n < 10 ^ 20 → 0 < n → 48 < get_or (digits n) 0 0
unfolding digits
first-digit = digits-ind (λ k n l. n < 10 ^ k → 0 < n → 48 < get_or l 0 0) (λ n m s. omega arith) (λ k n d m s. omega arith)
    (λ k n l d h m s. let f : 48 < get_or l 0 0 = h (omega arith) (omega arith) in
    omega (arith, first-kept l ((48 + n % 10) ∷ []) (omega arith))) 20

pub no-leading-zero : (n : ℕ) → n < 10 ^ 20 → 0 < n → get_or (digits n) 0 0 ≢ 48
no-leading-zero n m s = omega (arith, first-digit n m s)
