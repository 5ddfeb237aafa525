-- The words of a line, as the code finds them.
use Rattle.std.specs.Prelude.{position, unwrap_or}
use Rattle.std.specs.List.{position_or_len}
use Rattle.std.specs.Cmp.Lexicographic.{pointwise}
use Prim.Native.Nat.{ℕ, ◌+◌, ◌≤◌}
use native.Mathlib.Omega.{arith}
use mathlib.Core.Path.{◌≡◌, refl, sym, ap, ◌∙◌}
use mathlib.Core.Bool.{Bool, true, false, cond, not}
use mathlib.Core.List.{List, [], ◌∷◌}
use lib.ListN.{length, take, drop}
use lib.Dec.{eqb, ltb}
use borrow.Author.Tests.{ltb-false}
use Rattle.std.proofs.lemmas.List.Recursion.{is_position_or_len}
use Rattle.lines.specs.Words.{front, past, space_is, first_word, after_word, same}

-- ---- how far the bytes pass
module _ (p : ℕ → Bool) where
  front-short : (l : List ℕ) → length (front p l) ≤ length l
  unfolding front
  front-short [] = omega arith
  front-short (b ∷ l) = go (p b) (front-short l)
    where
      go : (c : Bool) → length (front p l) ≤ length l → length (cond c (b ∷ front p l) []) ≤ length (b ∷ l)
      go true h = omega arith
      go false h = omega arith

  pub front-take : (l : List ℕ) → take (length (front p l)) l ≡ front p l
  unfolding front
  front-take [] = refl
  front-take (b ∷ l) = go (p b) (front-take l)
    where
      go : (c : Bool) → take (length (front p l)) l ≡ front p l → take (length (cond c (b ∷ front p l) [])) (b ∷ l) ≡ cond c (b ∷ front p l) []
      go true h = ap (λ (k : List ℕ). b ∷ k) h
      go false h = refl

  pub front-drop : (l : List ℕ) → drop (length (front p l)) l ≡ past p l
  unfolding front past
  front-drop [] = refl
  front-drop (b ∷ l) = go (p b) (front-drop l)
    where
      go : (c : Bool) → drop (length (front p l)) l ≡ past p l → drop (length (cond c (b ∷ front p l) [])) (b ∷ l) ≡ cond c (past p l) (b ∷ l)
      go true h = h
      go false h = refl

  module _ (q : ℕ → Bool) (o : (b : ℕ) → q b ≡ not (p b)) where
    first-place : (l : List ℕ) → length (front p l) ≡ position_or_len q l
    unfolding front
    first-place = is_position_or_len (λ (l : List ℕ). length (front p l)) q refl (λ b l. rw (o b) (go l (b ∷ front p l) (omega arith) (p b)))
      where
        go : (l m : List ℕ) → length m ≡ 1 + length (front p l) → (c : Bool) → length (cond c m []) ≡ cond (not c) 0 (1 + length (front p l))
        go l m e true = e
        go l m e false = refl

    first-or-end : (l : List ℕ) → unwrap_or (position q l) (length l) ≡ length (front p l)
    first-or-end l = go (ltb (position_or_len q l) (length l)) refl
      where
        go : (c : Bool) → ltb (position_or_len q l) (length l) ≡ c → unwrap_or (position q l) (length l) ≡ length (front p l)
        go true e = rw e (sym (first-place l))
        go false e = rw e (omega (arith, ltb-false _ _ e, first-place l, front-short l))

-- ---- a word
module _ (l : List ℕ) where
  pub letter-place : unwrap_or (position (λ b. not (eqb b 32)) l) (length l) ≡ length (front (space_is true) l)
  unfolding space_is
  letter-place = first-or-end (space_is true) (λ b. not (eqb b 32)) (λ b. refl) l

  pub space-place : unwrap_or (position (λ b. eqb b 32) l) (length l) ≡ length (front (space_is false) l)
  unfolding space_is
  space-place = first-or-end (space_is false) (λ b. eqb b 32) (λ b. go (eqb b 32)) l
    where
      go : (c : Bool) → c ≡ not (not c)
      go true = refl
      go false = refl

  pub place-fits : (p : ℕ → Bool) {n : ℕ} → n ≡ length (front p l) → n ≤ length l
  place-fits p e = omega (arith, front-short p l)

  pub words-cut : {start end : ℕ} {m : List ℕ} → start ≡ length (front (space_is true) l) → m ≡ drop start l → end ≡ length (front (space_is false) m)
      → (take end m ≡ first_word l) × (drop end m ≡ after_word l)
  unfolding first_word after_word
  words-cut {start} {end} {m} e f g = (rw g (front-take (space_is false) m) ∙ ap (front (space_is false)) behind, rw g (front-drop (space_is false) m) ∙ ap (past (space_is false)) behind)
    where
      behind : m ≡ past (space_is true) l
      behind = f ∙ rw e (front-drop (space_is true) l)

past-short : (p : ℕ → Bool) (l : List ℕ) → length (past p l) ≤ length l
unfolding past
past-short p [] = omega arith
past-short p (b ∷ l) = go (p b) (past-short p l)
  where
    go : (c : Bool) → length (past p l) ≤ length l → length (cond c (past p l) (b ∷ l)) ≤ length (b ∷ l)
    go true h = omega arith
    go false h = omega arith

pub word-short : (l : List ℕ) → length (first_word l) ≤ length l
unfolding first_word
word-short l = omega (arith, front-short (space_is false) (past (space_is true) l), past-short (space_is true) l)

pub rest-short : (l : List ℕ) → length (after_word l) ≤ length l
unfolding after_word
rest-short l = omega (arith, past-short (space_is false) (past (space_is true) l), past-short (space_is true) l)

pub same-pointwise : (a b : List ℕ) → pointwise eqb a b ≡ same a b
unfolding same
same-pointwise [] [] = refl
same-pointwise [] (y ∷ b) = refl
same-pointwise (x ∷ a) [] = refl
same-pointwise (x ∷ a) (y ∷ b) = rw (same-pointwise a b)

-- what a test of two words told
pub told-same : (w : List ℕ) {l m : List ℕ} {r b : Bool} → l ≡ m → r ≡ pointwise eqb w l → r ≡ b → same w m ≡ b
told-same w {l} {m} e f g = rw (← e, ← same-pointwise w l) (sym f ∙ g)
