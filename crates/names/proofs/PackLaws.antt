-- A word and its bytes; and the name in two of them.
use Prim.Native.Nat.{ℕ, zero, suc, ◌+◌, ◌≤◌, ◌<◌}
use native.Mathlib.Omega.{arith}
use native.Mathlib.Nat.{div-one}
use mathlib.Core.Path.{◌≡◌, refl, sym, ap, ◌∙◌}
use mathlib.Core.Logic.{◌⊎◌, inl, inr}
use mathlib.Core.List.{List, [], ◌∷◌, ◌++◌}
use lib.ListN.{length, take, drop, get_or, replicate, length-append, length-replicate}
use lib.Seq.{length-take-le, get_or-take, get_or-drop, ext_get_or}
use Rattle.std.specs.Int.{w64, to_le_bytes, from_le_bytes}
use Rattle.std.specs.List.{slice_range}
use Rattle.std.proofs.lemmas.Nat.{le_bytes_8}
use Rattle.std.proofs.lemmas.Bool.{cases_lt}
use Rattle.std.proofs.lemmas.List.{get_or_past, take_rest, same_lists, places}
use Rattle.rules.specs.Sizes.{name_size}
use Rattle.rules.specs.Calls.{padded}
use Rattle.promises.specs.Laws.Lists.{same-all}
use Rattle.words.specs.Reading.{tab_from, tab, bytes_of}
use Rattle.words.proofs.Tabs.{length-tab, get_d-tab}

pub le-bytes : (n : ℕ) → to_le_bytes w64 n ≡ bytes_of n
unfolding bytes_of tab tab_from
le-bytes n = simp div-one

pub of-le_bytes : (l : List ℕ) (n : ℕ) → length l ≡ 8 → ((i : ℕ) → get_or l i 0 < 256) → n ≡ from_le_bytes w64 l → bytes_of n ≡ l
of-le_bytes l n long small e = sym (le-bytes n) ∙ le_bytes_8 l n long small e

pub eight : (l : List ℕ) (f : ℕ → ℕ) → length l ≡ 8
    → (get_or l 0 0 ≡ f 0) × (get_or l 1 0 ≡ f 1) × (get_or l 2 0 ≡ f 2) × (get_or l 3 0 ≡ f 3) × (get_or l 4 0 ≡ f 4) × (get_or l 5 0 ≡ f 5) × (get_or l 6 0 ≡ f 6) × (get_or l 7 0 ≡ f 7)
    → l ≡ tab 8 f
unfolding tab tab_from
eight l f long (a, b, c, d, e, g, h, i) = rw (← a, ← b, ← c, ← d, ← e, ← g, ← h, ← i) (same_lists l _ long (λ k d h. grind (arith, places)))

tab-small : (f : ℕ → ℕ) → ((i : ℕ) → f i < 256) → (i : ℕ) → (i < 8) ⊎ (8 ≤ i) → get_or (tab 8 f) i 0 < 256
tab-small f h i (inl k) = rw (get_d-tab 8 f i 0 k) (h i)
tab-small f h i (inr k) = rw (get_or_past (tab 8 f) i 0 (rw (length-tab 8 f) k)) (omega arith)

-- eight bytes that a word was made of
pub word-of : (l : List ℕ) (f : ℕ → ℕ) {n : ℕ} → n ≡ from_le_bytes w64 l → ((i : ℕ) → f i < 256) → l ≡ tab 8 f → bytes_of n ≡ tab 8 f
word-of l f e small same = of-le_bytes l _ (rw same (length-tab 8 f)) (λ i. rw same (tab-small f small i (cases_lt i 8))) e ∙ same

-- the first eight bytes of a part that goes on to the end
pub whole : (l : List ℕ) (from : ℕ) {rest bytes : List ℕ} → rest ≡ slice_range l from (length l) → 8 ≤ length rest → bytes ≡ take 8 rest → bytes ≡ tab 8 (λ i. get_or l (from + i) 0)
whole l from {rest} {bytes} part long e = ext_get_or 0 bytes _ (eight_bytes ∙ sym (length-tab 8 _)) (λ i h. byte i (rw (← eight_bytes) h))
  where
    eight_bytes : length bytes ≡ 8
    eight_bytes = ap length e ∙ length-take-le 8 rest long

    byte : (i : ℕ) → i < 8 → get_or bytes i 0 ≡ get_or (tab 8 (λ i. get_or l (from + i) 0)) i 0
    byte i h =
        ap (λ (k : List ℕ). get_or k i 0) (e ∙ ap (take 8) (part ∙ take_rest l from))
        ∙ get_or-take 8 (drop from l) i 0 h
        ∙ get_or-drop from l i 0
        ∙ sym (get_d-tab 8 (λ i. get_or l (from + i) 0) i 0 h)

-- ---- the name, with zeros after it
zeros-after : (l : List ℕ) (m i : ℕ) → get_or (l ++ replicate m 0) i 0 ≡ get_or l i 0
zeros-after [] m i = same-all m 0 i
zeros-after (x ∷ l) m zero = refl
zeros-after (x ∷ l) m (suc i) = zeros-after l m i

padded-tab : (l : List ℕ) → tab name_size (λ i. get_or l i 0) ≡ padded l
unfolding padded
padded-tab l = ext_get_or 0 _ _ (length-tab name_size _ ∙ sym (length-take-le name_size (l ++ replicate name_size 0) long)) (λ i h. byte i (rw (← length-tab name_size (λ i. get_or l i 0)) h))
  where
    long : name_size ≤ length (l ++ replicate name_size 0)
    long = rw (length-append, length-replicate) (omega arith)

    byte : (i : ℕ) → i < name_size → get_or (tab name_size (λ i. get_or l i 0)) i 0 ≡ get_or (take name_size (l ++ replicate name_size 0)) i 0
    byte i h = get_d-tab name_size _ i 0 h ∙ sym (get_or-take name_size (l ++ replicate name_size 0) i 0 h ∙ zeros-after l name_size i)

pub two-words : (l : List ℕ) {a b : List ℕ} → a ≡ tab 8 (λ i. get_or l (0 + i) 0) → b ≡ tab 8 (λ i. get_or l (8 + i) 0) → a ++ b ≡ padded l
unfolding tab tab_from name_size
two-words l e f = rw (e, f) (padded-tab l)
