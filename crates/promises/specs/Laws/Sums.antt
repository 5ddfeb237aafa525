-- Sums over the numbers below n, and that a list of them is as long as the sum of its counts.
use Rattle.std.specs.Prelude.{ℕ, zero, suc, ◌+◌, ◌≤◌, ◌<◌, ◌≡◌, refl, ◌≢◌, Bool, true, false, List, [], ◌∷◌, length, get_or, eqb, leb}
use Rattle.std.proofs.Common.{arith, not-suc-le-zero, ap, eqb-true, ne_eqb, leb-true, leb-false}
use Rattle.std.proofs.lemmas.Bool.{eqb-false}
use Rattle.promises.specs.Laws.Counts.{ind, tally}

unfoldable pub sum_to : (ℕ → ℕ) → ℕ → ℕ
sum_to f zero = 0
sum_to f (suc n) = f n + sum_to f n

pub sum-zero : (n : ℕ) → sum_to (λ i. 0) n ≡ 0
unfolding sum_to
sum-zero zero = refl
sum-zero (suc n) = omega (arith, sum-zero n)

pub sum-add : (f g : ℕ → ℕ) (n : ℕ) → sum_to (λ i. f i + g i) n ≡ sum_to f n + sum_to g n
unfolding sum_to
sum-add f g zero = refl
sum-add f g (suc n) = omega (arith, sum-add f g n)

pub sum_same : (f g : ℕ → ℕ) (n : ℕ) → ((i : ℕ) → f i ≡ g i) → sum_to f n ≡ sum_to g n
unfolding sum_to
sum_same f g zero h = refl
sum_same f g (suc n) h = omega (arith, h n, sum_same f g n h)

pub sum-most : (f : ℕ → ℕ) → ((i : ℕ) → f i ≤ 1) → (n : ℕ) → sum_to f n ≤ n
unfolding sum_to
sum-most f h zero = omega arith
sum-most f h (suc n) = omega (arith, h n, sum-most f h n)

-- one of them is 0
pub sum_below : (f : ℕ → ℕ) → ((i : ℕ) → f i ≤ 1) → (n j : ℕ) → j < n → f j ≡ 0 → sum_to f n < n
unfolding sum_to
sum_below f h zero j l e = absurd (not-suc-le-zero l)
sum_below f h (suc n) j l e = go (eqb j n) refl (sum_below f h n j)
  where
    go : (b : Bool) → eqb j n ≡ b → (j < n → f j ≡ 0 → sum_to f n < n) → f n + sum_to f n < suc n
    go true q k = omega (arith, sum-most f h n, ap f (eqb-true j n q))
    go false q k = let ne : j ≢ n = eqb-false j n q in omega (arith, h n, k (omega arith) e)

pub sum-least : (f : ℕ → ℕ) (n : ℕ) → ((i : ℕ) → i < n → 1 ≤ f i) → n ≤ sum_to f n
unfolding sum_to
sum-least f zero h = omega arith
sum-least f (suc n) h = omega (arith, h n (omega arith), sum-least f n (λ i l. h i (omega arith)))

sum_past : (x n : ℕ) → n ≤ x → sum_to (λ i. ind (eqb i x)) n ≡ 0
unfolding sum_to
sum_past x zero h = refl
sum_past x (suc n) h = let z : ind (eqb n x) ≡ 0 = ap ind (ne_eqb n x (λ e. omega arith)) in omega (arith, sum_past x n (omega arith))

-- one number is met at most once, and once if it is in range
pub sum_one : (x n : ℕ) → x < n → sum_to (λ i. ind (eqb i x)) n ≡ 1
unfolding sum_to
sum_one x zero h = absurd (not-suc-le-zero h)
sum_one x (suc n) h = go (eqb n x) refl (sum_one x n)
  where
    go : (b : Bool) → eqb n x ≡ b → (x < n → sum_to (λ i. ind (eqb i x)) n ≡ 1) → ind (eqb n x) + sum_to (λ i. ind (eqb i x)) n ≡ 1
    go true e f = omega (arith, ap ind e, sum_past x n (omega (arith, eqb-true n x e)))
    go false e f = let ne : n ≢ x = eqb-false n x e in omega (arith, ap ind e, f (omega arith))

pub sum-once : (x n : ℕ) → sum_to (λ i. ind (eqb i x)) n ≤ 1
sum-once x n = go (leb n x) refl
  where
    go : (b : Bool) → leb n x ≡ b → sum_to (λ i. ind (eqb i x)) n ≤ 1
    go true e = omega (arith, sum_past x n (leb-true n x e))
    go false e = omega (arith, sum_one x n (leb-false n x e))

-- a list of numbers below n: its length is the sum of how often each stands in it
pub sum-counts : (n : ℕ) (q : List ℕ) → ((i : ℕ) → i < length q → get_or q i 0 < n) → sum_to (λ s. tally (eqb s) q) n ≡ length q
unfolding tally
sum-counts n [] h = sum-zero n
sum-counts n (x ∷ q) h =
    omega (arith, sum-add (λ s. ind (eqb s x)) (λ s. tally (eqb s) q) n, sum_one x n (h 0 (omega arith)), sum-counts n q (λ i l. h (suc i) (omega arith)))
