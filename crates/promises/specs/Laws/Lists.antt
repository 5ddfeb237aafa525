-- A list in which one element is replaced, and one that repeats an element.
use Rattle.std.specs.Prelude.{ℕ, zero, suc, ◌≡◌, refl, ◌⊎◌, List, [], ◌∷◌, get_or, set, replicate}
use Rattle.std.proofs.Common.{ap, inl, inr}

pub set_cases : {A : Type 0} (l : List A) (s : ℕ) (y d : A) (j : ℕ) → ((j ≡ s) × (get_or (set l s y) j d ≡ y)) ⊎ (get_or (set l s y) j d ≡ get_or l j d)
set_cases [] s y d j = inr refl
set_cases (x ∷ l) zero y d zero = inl (refl, refl)
set_cases (x ∷ l) zero y d (suc j) = inr refl
set_cases (x ∷ l) (suc s) y d zero = inr refl
set_cases (x ∷ l) (suc s) y d (suc j) = up (set_cases l s y d j)
  where
    up : ((j ≡ s) × (get_or (set l s y) j d ≡ y)) ⊎ (get_or (set l s y) j d ≡ get_or l j d)
        → ((suc j ≡ suc s) × (get_or (set l s y) j d ≡ y)) ⊎ (get_or (set l s y) j d ≡ get_or l j d)
    up (inl e) = inl (ap suc e.0, e.1)
    up (inr e) = inr e

-- what holds of each element at its place still does, if it does of the new one at its own
pub all_set : {A : Type 0} (P : ℕ → A → Type 0) (l : List A) (s : ℕ) (y d : A) → ((j : ℕ) → P j (get_or l j d)) → P s y → (j : ℕ) → P j (get_or (set l s y) j d)
all_set P [] s y d h k j = h j
all_set P (x ∷ l) zero y d h k zero = k
all_set P (x ∷ l) zero y d h k (suc j) = h (suc j)
all_set P (x ∷ l) (suc s) y d h k zero = h zero
all_set P (x ∷ l) (suc s) y d h k (suc j) = all_set (λ i. P (suc i)) l s y d (λ i. h (suc i)) k j

-- each element is related to the one before it at its place, if the new one is to the old
pub rel-set : {A : Type 0} (R : A → A → Type 0) → ((p : A) → R p p) → (l : List A) (s : ℕ) (y d : A) → R (get_or l s d) y → (j : ℕ) → R (get_or l j d) (get_or (set l s y) j d)
rel-set R r [] s y d k j = r d
rel-set R r (x ∷ l) zero y d k zero = k
rel-set R r (x ∷ l) zero y d k (suc j) = r (get_or l j d)
rel-set R r (x ∷ l) (suc s) y d k zero = r x
rel-set R r (x ∷ l) (suc s) y d k (suc j) = rel-set R r l s y d k j

-- every element of a repetition is the one repeated
pub same-all : {A : Type 0} (n : ℕ) (a : A) (i : ℕ) → get_or (replicate n a) i a ≡ a
same-all zero a i = refl
same-all (suc n) a zero = refl
same-all (suc n) a (suc i) = same-all n a i
