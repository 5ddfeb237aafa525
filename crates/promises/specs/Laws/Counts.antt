-- How many elements of a list pass a test.
use Rattle.std.specs.Prelude.{ℕ, zero, suc, ◌+◌, ◌≤◌, ◌<◌, ◌≡◌, refl, Bool, true, false, ◌&&◌, List, [], ◌∷◌, ◌++◌, length, get_or, set, replicate, eqb}
use Rattle.std.proofs.Common.{arith, not-suc-le-zero, le_of_suc-le-suc, ap}
use Rattle.std.proofs.Math.Dec.{eqb-zero-suc, eqb-suc-zero, eqb-suc-suc}

abbrev pub ind : Bool → ℕ
ind true = 1
ind false = 0

pub ind-small : (b : Bool) → ind b ≤ 1
ind-small true = omega arith
ind-small false = omega arith

pub ind-true : (b : Bool) → 1 ≤ ind b → b ≡ true
ind-true true h = refl
ind-true false h = absurd (not-suc-le-zero h)

-- how many elements pass a test
unfoldable pub tally : {A : Type 0} → (A → Bool) → List A → ℕ
tally f [] = 0
tally f (x ∷ xs) = ind (f x) + tally f xs

pub tally-append : {A : Type 0} (f : A → Bool) (l : List A) (x : A) → tally f (l ++ (x ∷ [])) ≡ tally f l + ind (f x)
unfolding tally
tally-append f [] x = omega arith
tally-append f (y ∷ l) x = omega (arith, tally-append f l x)

pub tally-set : {A : Type 0} (f : A → Bool) (l : List A) (i : ℕ) (a d : A) → i < length l → tally f (set l i a) + ind (f (get_or l i d)) ≡ tally f l + ind (f a)
unfolding tally
tally-set f [] i a d r = absurd (not-suc-le-zero r)
tally-set f (x ∷ l) zero a d r = omega arith
tally-set f (x ∷ l) (suc i) a d r = omega (arith, tally-set f l i a d (le_of_suc-le-suc r))

pub tally-none : {A : Type 0} (f : A → Bool) (n : ℕ) (a : A) → f a ≡ false → tally f (replicate n a) ≡ 0
unfolding tally
tally-none f zero a e = refl
tally-none f (suc n) a e = omega (arith, ap ind e, tally-none f n a e)

pub tally-same : {A : Type 0} (f : A → Bool) (l m : List A) (d : A) → length l ≡ length m → ((j : ℕ) → f (get_or l j d) ≡ f (get_or m j d)) → tally f l ≡ tally f m
unfolding tally
tally-same f [] [] d n e = refl
tally-same f [] (y ∷ m) d n e = absurd (omega arith)
tally-same f (x ∷ l) [] d n e = absurd (omega arith)
tally-same f (x ∷ l) (y ∷ m) d n e = omega (arith, ap ind (e 0), tally-same f l m d (omega arith) (λ j. e (suc j)))

pub tally-le : {A : Type 0} (f : A → Bool) (l : List A) → tally f l ≤ length l
unfolding tally
tally-le f [] = omega arith
tally-le f (x ∷ l) = omega (arith, ind-small (f x), tally-le f l)

-- one that does not pass
pub tally-lt : {A : Type 0} (f : A → Bool) (l : List A) (d : A) (i : ℕ) → i < length l → f (get_or l i d) ≡ false → tally f l < length l
unfolding tally
tally-lt f [] d i r e = absurd (not-suc-le-zero r)
tally-lt f (x ∷ l) d zero r e = omega (arith, ap ind e, tally-le f l)
tally-lt f (x ∷ l) d (suc i) r e = omega (arith, ind-small (f x), tally-lt f l d i (le_of_suc-le-suc r) e)

-- one that passes, and two
pub tally-one : {A : Type 0} (f : A → Bool) (l : List A) (d : A) (i : ℕ) → i < length l → f (get_or l i d) ≡ true → 1 ≤ tally f l
unfolding tally
tally-one f [] d i r e = absurd (not-suc-le-zero r)
tally-one f (x ∷ l) d zero r e = omega (arith, ap ind e)
tally-one f (x ∷ l) d (suc i) r e = omega (arith, tally-one f l d i (le_of_suc-le-suc r) e)

pub tally-two : {A : Type 0} (f : A → Bool) (l : List A) (d : A) (i k : ℕ) → i < k → k < length l → f (get_or l i d) ≡ true → f (get_or l k d) ≡ true → 2 ≤ tally f l
unfolding tally
tally-two f [] d i k m r a b = absurd (not-suc-le-zero r)
tally-two f (x ∷ l) d i zero m r a b = absurd (not-suc-le-zero m)
tally-two f (x ∷ l) d zero (suc k) m r a b = omega (arith, ap ind a, tally-one f l d k (le_of_suc-le-suc r) b)
tally-two f (x ∷ l) d (suc i) (suc k) m r a b = omega (arith, tally-two f l d i k (le_of_suc-le-suc m) (le_of_suc-le-suc r) a b)

-- what is counted stands somewhere
pub record Stands {A : Type 0} (f : A → Bool) (l : List A) (d : A) : Type 0 where
  pub place : ℕ
  pub range : place < length l
  pub here : f (get_or l place d) ≡ true

pub tally-stands : {A : Type 0} (f : A → Bool) (l : List A) (d : A) → 1 ≤ tally f l → Stands f l d
unfolding tally
tally-stands f [] d h = absurd (not-suc-le-zero h)
tally-stands f (x ∷ l) d h = go (f x) refl (tally-stands f l d)
  where
    go : (b : Bool) → f x ≡ b → (1 ≤ tally f l → Stands f l d) → Stands f (x ∷ l) d
    go true e k = record { place = 0; range = omega arith; here = e }
    go false e k = let r = k (omega (arith, rw e at h)) in record { place = suc r.place; range = omega (arith, r.range); here = r.here }

-- a test over the places moves by what it says of the old and the new element
pub delta : {A : Type 0} (φ : A → Bool) (l : List A) (s : ℕ) (y d : A) (a b : Bool) → s < length l → φ (get_or l s d) ≡ a → φ y ≡ b
    → (j : ℕ) → ind (φ (get_or (set l s y) j d)) + ind (a && eqb j s) ≡ ind (φ (get_or l j d)) + ind (b && eqb j s)
delta φ [] s y d a b r p q j = absurd (not-suc-le-zero r)
delta φ (x ∷ l) zero y d true true r p q zero = rw (p, q)
delta φ (x ∷ l) zero y d true false r p q zero = rw (p, q)
delta φ (x ∷ l) zero y d false true r p q zero = rw (p, q)
delta φ (x ∷ l) zero y d false false r p q zero = rw (p, q)
delta φ (x ∷ l) zero y d true true r p q (suc j) = refl
delta φ (x ∷ l) zero y d true false r p q (suc j) = rw eqb-suc-zero
delta φ (x ∷ l) zero y d false true r p q (suc j) = rw eqb-suc-zero
delta φ (x ∷ l) zero y d false false r p q (suc j) = refl
delta φ (x ∷ l) (suc s) y d true true r p q zero = refl
delta φ (x ∷ l) (suc s) y d true false r p q zero = rw eqb-zero-suc
delta φ (x ∷ l) (suc s) y d false true r p q zero = rw eqb-zero-suc
delta φ (x ∷ l) (suc s) y d false false r p q zero = refl
delta φ (x ∷ l) (suc s) y d a b r p q (suc j) = rw eqb-suc-suc (delta φ l s y d a b (le_of_suc-le-suc r) p q j)
