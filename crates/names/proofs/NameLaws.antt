-- A name shown byte by byte, up to the first zero.
use Rattle.std.proofs.Common.{◌≡◌, ℕ, zero, suc, ◌<◌, ◌≤◌, List, [], ◌∷◌, ◌++◌, length, get_or, take, map, refl, sym, ap, ◌∙◌, arith, eq-eqb, ext_get_or}
use Rattle.std.proofs.lemmas.List.{take_at, length-map, get_or-map}
use Rattle.std.specs.List.{AllWithin, HoldsAt}
use Rattle.std.specs.Option.{MatchOption, unwrap_or}
use Rattle.std.specs.Prelude.{Option, Some, None}
use borrow.Author.Tests.{ne_eqb}
use Rattle.rules.specs.Listing.{up_to_zero, shown}
use Rattle.names.specs.Names.{name_shown}

-- no zero stands before place n, and one there if the list goes on
up_to-place : (l : List ℕ) (n : ℕ) → n ≤ length l → ((k : ℕ) → k < n → get_or l k 0 ≡ 0 → ⊥) → (n < length l → get_or l n 0 ≡ 0) → up_to_zero l ≡ take n l
unfolding up_to_zero
up_to-place [] zero h b z = refl
up_to-place [] (suc n) h b z = absurd (omega arith)
up_to-place (x ∷ l) zero h b z = rw (eq-eqb x 0 (z (omega arith)), up_to_zero)
up_to-place (x ∷ l) (suc n) h b z =
    rw (ne_eqb x 0 (b 0 (omega arith)), up_to_zero)
    (ap (λ (t : List ℕ). x ∷ t) (up_to-place l n (omega arith) (λ k g. b (suc k) (omega arith)) (λ g. z (omega arith))))

pub mapped : (f : ℕ → ℕ) (l m : List ℕ) → length m ≡ length l → ((i : ℕ) → i < length l → get_or m i 0 ≡ f (get_or l i 0)) → m ≡ map f l
mapped f l m e h = ext_get_or 0 m _ (e ∙ sym (length-map l f)) (λ i g. h i (omega arith) ∙ sym (get_or-map f l i 0 0 (omega arith)))

-- r is the place of the first zero, n that or the name's length
pub first-zero : (name : List ℕ) (r : Option ℕ) (n : ℕ)
    → MatchOption r (AllWithin (λ x. x ≡ 0 → ⊥) name 0 (length name)) (λ i. (i < length name) × HoldsAt (λ x. x ≡ 0) name i × AllWithin (λ x. x ≡ 0 → ⊥) name 0 i)
    → n ≡ unwrap_or r (length name) → (up_to_zero name ≡ take n name) × (n ≤ length name)
first-zero name None n none m =
    (up_to-place name n (omega arith) (λ k h. none k 0 (omega arith) (omega arith)) (λ h. absurd (omega arith)), omega arith)
first-zero name (Some i) n (within, at, before) m =
    (rw m (up_to-place name i (omega arith) (λ k h. before k 0 (omega arith) h) (λ h. at 0)), omega arith)

-- l is shown of the name up to there, whatever stands behind it
pub shown-front : (name l rest : List ℕ) (n : ℕ) → (up_to_zero name ≡ take n name) → length l ≡ n → l ≡ map shown (take n name) → take n (l ++ rest) ≡ name_shown name
unfolding name_shown
shown-front name l rest n u e m = take_at l rest n e ∙ m ∙ ap (map shown) (sym u)
