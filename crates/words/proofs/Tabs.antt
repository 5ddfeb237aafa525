-- Lists made of a function.
use Rattle.std.proofs.Common.{◌≡◌, ℕ, zero, suc, ◌+◌, ◌<◌, length, get_or, set, sym, refl, ap, ◌∙◌, subst, le_of_suc-le-suc, not-suc-le-zero, add-zero, zero-add, arith, length-set, get_or-set_other, get_or-set_same, ext_get_or}
use native.Mathlib.Decide.{ℕ_discrete}
use Rattle.words.specs.Reading.{tab_from, tab}

length-tab_from : {A : Type 0} (n k : ℕ) (f : ℕ → A) → length (tab_from n k f) ≡ n
unfolding tab_from
length-tab_from zero k f = refl
length-tab_from (suc n) k f = ap suc (length-tab_from n (suc k) f)

get_d-tab_from : {A : Type 0} (n k : ℕ) (f : ℕ → A) (i : ℕ) (d : A) → i < n → get_or (tab_from n k f) i d ≡ f (k + i)
unfolding tab_from
get_d-tab_from zero k f i d h = absurd (not-suc-le-zero h)
get_d-tab_from (suc n) k f zero d h = rw add-zero
get_d-tab_from (suc n) k f (suc i) d h = get_d-tab_from n (suc k) f i d (le_of_suc-le-suc h) ∙ ap f (omega arith)

pub length-tab : {A : Type 0} (n : ℕ) (f : ℕ → A) → length (tab n f) ≡ n
unfolding tab
length-tab n f = length-tab_from n 0 f

pub get_d-tab : {A : Type 0} (n : ℕ) (f : ℕ → A) (i : ℕ) (d : A) → i < n → get_or (tab n f) i d ≡ f i
unfolding tab
get_d-tab n f i d h = get_d-tab_from n 0 f i d h ∙ ap f (zero-add i)

pub tab-same : {A : Type 0} (n : ℕ) (f g : ℕ → A) (d : A) → ((i : ℕ) → i < n → f i ≡ g i) → tab n f ≡ tab n g
tab-same n f g d h = ext_get_or d (tab n f) (tab n g) (length-tab n f ∙ sym (length-tab n g)) step
  where
    step : (i : ℕ) → i < length (tab n f) → get_or (tab n f) i d ≡ get_or (tab n g) i d
    step i l = let k : i < n = subst (λ (m : ℕ). i < m) (length-tab n f) l in get_d-tab n f i d k ∙ h i k ∙ sym (get_d-tab n g i d k)

-- another function at one place only
pub tab-set : {A : Type 0} (n : ℕ) (f g : ℕ → A) (s : ℕ) (v d : A) → s < n → g s ≡ v → ((i : ℕ) → i < n → (i ≡ s → ⊥) → g i ≡ f i) → tab n g ≡ set (tab n f) s v
tab-set n f g s v d b e h = ext_get_or d (tab n g) (set (tab n f) s v) (length-tab n g ∙ sym (length-set (tab n f) s v ∙ length-tab n f)) step
  where
    pick : (i : ℕ) → i < n → Dec (i ≡ s) → get_or (tab n g) i d ≡ get_or (set (tab n f) s v) i d
    pick i k (yes p) = get_d-tab n g i d k ∙ rw (p, e) (sym (get_or-set_same (tab n f) s v d (subst (λ (m : ℕ). s < m) (sym (length-tab n f)) b)))
    pick i k (no p) = get_d-tab n g i d k ∙ h i k p ∙ sym (get_or-set_other (tab n f) s i v d p ∙ get_d-tab n f i d k)

    step : (i : ℕ) → i < length (tab n g) → get_or (tab n g) i d ≡ get_or (set (tab n f) s v) i d
    step i l = pick i (subst (λ (m : ℕ). i < m) (length-tab n g) l) (ℕ_discrete i s)
