-- What the scans of the rules find, and what holds after a sweep.
use Rattle.std.specs.Prelude.{ℕ, zero, suc, ◌+◌, ◌<◌, ◌≡◌, refl, Bool, true, false, List, [], ◌∷◌, length, get_or, eqb, Option, Some, None}
use Rattle.std.proofs.Common.{arith, not-suc-le-zero, le_of_suc-le-suc, zero-lt-suc, eqb-true}
use Rattle.std.proofs.lemmas.Bool.{eqb-false}
use Rattle.rules.specs.Moves.{first_from, lowest, sweep}

-- what a scan finds is in range, passes, and is the first to
record Hit {A : Type 0} (test : A → Bool) (l : List A) (d : A) (k i : ℕ) : Type 0 where
  place : ℕ
  sum : i ≡ k + place
  range : place < length l
  passes : test (get_or l place d) ≡ true
  first : (j : ℕ) → j < place → test (get_or l j d) ≡ false

first-hit : {A : Type 0} (test : A → Bool) (l : List A) (d : A) (k i : ℕ) → first_from test l k ≡ Some i → Hit test l d k i
unfolding first_from
first-hit test [] d k i e = let z : ◌≡◌ {A = ℕ} 0 1 = cc in absurd (omega arith)
first-hit test (x ∷ l) d k i e = go (test x) refl e (first-hit test l d (suc k) i)
  where
    go : (b : Bool) → test x ≡ b → elim b as (λ _. Option ℕ) [ true ↦ Some k | false ↦ first_from test l (suc k) ] ≡ Some i
        → (first_from test l (suc k) ≡ Some i → Hit test l d (suc k) i) → Hit test (x ∷ l) d k i
    go true p q f = let z : k ≡ i = cc in record { place = 0; sum = omega arith; range = zero-lt-suc (length l); passes = p; first = λ j r. absurd (not-suc-le-zero r) }
    go false p q f = let w = f q in record { place = suc w.place; sum = omega (arith, w.sum); range = omega (arith, w.range); passes = w.passes; first = below w }
      where
        below : (w : Hit test l d (suc k) i) (j : ℕ) → j < suc w.place → test (get_or (x ∷ l) j d) ≡ false
        below w zero r = p
        below w (suc j) r = w.first j (le_of_suc-le-suc r)

module _ {A : Type 0} (test : A → Bool) (l : List A) (d : A) (i : ℕ) (e : lowest test l ≡ Some i) where
  pub lowest-passes : test (get_or l i d) ≡ true
  unfolding lowest
  lowest-passes = let w = first-hit test l d 0 i e in let z : w.place ≡ i = omega (arith, w.sum) in rw z at w.passes

  pub lowest-range : i < length l
  unfolding lowest
  lowest-range = let w = first-hit test l d 0 i e in omega (arith, w.sum, w.range)

  pub lowest-first : (j : ℕ) → j < i → test (get_or l j d) ≡ false
  unfolding lowest
  lowest-first j r = let w = first-hit test l d 0 i e in w.first j (omega (arith, w.sum, r))

-- where nothing is found, nothing passes
first-none : {A : Type 0} (test : A → Bool) (l : List A) (d : A) (k : ℕ) → first_from test l k ≡ None → (i : ℕ) → i < length l → test (get_or l i d) ≡ false
unfolding first_from
first-none test [] d k e i r = absurd (not-suc-le-zero r)
first-none test (x ∷ l) d k e i r = go (test x) refl e i r (first-none test l d (suc k))
  where
    go : (b : Bool) → test x ≡ b → ◌≡◌ {A = Option ℕ} (elim b as (λ _. Option ℕ) [ true ↦ Some k | false ↦ first_from test l (suc k) ]) None → (i : ℕ) → i < suc (length l)
        → (first_from test l (suc k) ≡ None → (i : ℕ) → i < length l → test (get_or l i d) ≡ false) → test (get_or (x ∷ l) i d) ≡ false
    go true p q i r f = cc
    go false p q zero r f = p
    go false p q (suc i) r f = f q i (le_of_suc-le-suc r)

pub lowest-none : {A : Type 0} (test : A → Bool) (l : List A) (d : A) → lowest test l ≡ None → (i : ℕ) → i < length l → test (get_or l i d) ≡ false
unfolding lowest
lowest-none test l d e = first-none test l d 0 e

-- what each step keeps, a sweep keeps
pub sweep-keeps : {A : Type 0} (I : A → Type 0) (f : ℕ → A → A) → ((i : ℕ) (a : A) → I a → I (f i a)) → (n : ℕ) (a : A) → I a → I (sweep f n a)
unfolding sweep
sweep-keeps I f k zero a v = v
sweep-keeps I f k (suc n) a v = k n (sweep f n a) (sweep-keeps I f k n a v)

-- what the step at a place brings there, and every other step keeps there, is there after the sweep
pub sweep-each : {A : Type 0} (Q : ℕ → A → Type 0) (f : ℕ → A → A) → ((i : ℕ) (a : A) → Q i (f i a)) → ((i j : ℕ) (a : A) → Q j a → Q j (f i a))
    → (n : ℕ) (a : A) (j : ℕ) → j < n → Q j (sweep f n a)
unfolding sweep
sweep-each Q f own keep zero a j r = absurd (not-suc-le-zero r)
sweep-each Q f own keep (suc n) a j r = go (eqb j n) refl (sweep-each Q f own keep n a j)
  where
    go : (b : Bool) → eqb j n ≡ b → (j < n → Q j (sweep f n a)) → Q j (f n (sweep f n a))
    go true e k = let z : j ≡ n = eqb-true j n e in rw z (own n (sweep f n a))
    go false e k = let ne = eqb-false j n e in keep n j (sweep f n a) (k (omega (arith, r, ne)))
