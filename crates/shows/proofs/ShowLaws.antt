-- The table's lines put together.
use Prim.Native.Nat.{ℕ, ◌+◌, ◌*◌, ◌<◌, ◌≤◌}
use native.Mathlib.Omega.{arith}
use native.Mathlib.Numerals.{add-one}
use mathlib.Core.Path.{◌≡◌, refl, sym, ap, ◌∙◌}
use mathlib.Core.Bool.{false}
use mathlib.Core.List.{List, [], ◌∷◌, ◌++◌, map, map-append, append_assoc, append-nil}
use lib.ListN.{length, take, get_or, length-map}
use lib.Seq.{take-suc, take_all, length-take-le}
use lib.Dec.{eqb}
use Rattle.rules.specs.declared.ProcState.TheVariants.{UNUSED}
use Rattle.rules.specs.declared.ProcMeta.{ProcMeta}
use Rattle.rules.specs.Model.{Table, state_code, at}
use Rattle.rules.specs.Listing.{bytes, digits}
use Rattle.buffers.specs.Text.{Wrote}
use Rattle.buffers.proofs.TextLaws.{wrote-long, wrote-more}
use Rattle.shows.specs.Shows.{others, separated, queue_text, used_text, slot_text}

-- ---- commas
others-more : (l : List (List ℕ)) (x : List ℕ) → others (l ++ (x ∷ [])) ≡ others l ++ (bytes "," ++ x)
unfolding others
others-more [] x = append-nil (bytes "," ++ x)
others-more (y ∷ l) x = ap (λ (k : List ℕ). bytes "," ++ y ++ k) (others-more l x) ∙ sym (append_assoc (bytes "," ++ y) (others l) (bytes "," ++ x))

separated_more : (l : List (List ℕ)) (x : List ℕ) → 0 < length l → separated (l ++ (x ∷ [])) ≡ separated l ++ (bytes "," ++ x)
unfolding separated
separated_more [] x h = absurd (omega arith)
separated_more (y ∷ l) x h = ap (λ (k : List ℕ). y ++ k) (others-more l x) ∙ sym (append_assoc y (others l) (bytes "," ++ x))

-- Once p and the first of l stood before place m of o, those below i were added; now b is written up to place k.
pub record Listed {A : Type 0} (f : A → List ℕ) (p : List ℕ) (l : List A) (o : List ℕ) (m i : ℕ) (b : List ℕ) (k : ℕ) : Type 0 where
  pub low : 1 ≤ i
  pub high : i ≤ length l
  pub long : length b ≡ length o
  pub near : k + 21 ≤ m + 21 * i
  pub text : (a : List ℕ) (n : ℕ) → Wrote a n (p ++ separated (map f (take 1 l))) o m → Wrote a n (p ++ separated (map f (take i l))) b k

module _ {A : Type 0} (f : A → List ℕ) (p : List ℕ) (l : List A) where
  pub listed_start : (b : List ℕ) (k : ℕ) → 1 ≤ length l → Listed f p l b k 1 b k
  listed_start b k h = record { low = omega arith; high = h; long = refl; near = omega arith; text = λ a n w. w }

  module _ (d : A) where
    first-text : (l : List A) → 1 ≤ length l → p ++ separated (map f (take 1 l)) ≡ p ++ f (get_or l 0 d)
    unfolding separated others
    first-text [] h = absurd (omega arith)
    first-text (x ∷ l) h = ap (λ (k : List ℕ). p ++ k) (append-nil (f x))

    next-text : (i : ℕ) → 1 ≤ i → i < length l → p ++ separated (map f (take (i + 1) l)) ≡ p ++ separated (map f (take i l)) ++ (bytes "," ++ f (get_or l i d))
    next-text i g h =
        let front : length (map f (take i l)) ≡ i = length-map (take i l) f ∙ length-take-le i l (omega arith) in
        rw (add-one, take-suc l i d h, map-append, separated_more (map f (take i l)) (f (get_or l i d)) (omega arith)) (sym (append_assoc p _ _))

    pub listed_more : {o b a : List ℕ} {m i k n : ℕ} → Listed f p l o m i b k → i < length l → Wrote b k (bytes "," ++ f (get_or l i d)) a n → n ≤ k + 21 → Listed f p l o m (i + 1) a n
    listed_more {i = i} u h w r = record {
      low = omega (arith, u.low);
      high = omega arith;
      long = wrote-long w ∙ u.long;
      near = omega (arith, u.near);
      text = λ a n v. rw (next-text i u.low h) (wrote-more (u.text a n v) w);
    }

    pub listed-all : {a o b : List ℕ} {n m i k : ℕ} → Listed f p l o m i b k → length l ≤ i → Wrote a n (p ++ f (get_or l 0 d)) o m → Wrote a n (p ++ separated (map f l)) b k
    listed-all {a} {n = n} {i = i} u h w =
        rw (take_all i l h) at (u.text a n (rw (first-text l (omega (arith, u.low, u.high))) w))

pub queue-none : (q : List ℕ) → length q ≡ 0 → bytes " queue -" ≡ queue_text q
unfolding queue_text
queue-none [] e = refl
queue-none (s ∷ q) e = absurd (omega arith)

pub queue-some : (q : List ℕ) → 0 < length q → bytes " queue " ++ separated (map digits q) ≡ queue_text q
unfolding queue_text
queue-some [] h = absurd (omega arith)
queue-some (s ∷ q) h = refl

-- ---- the line of a slot
module _ (t : Table) (s : ℕ) (m : ProcMeta) (here : m ≡ (at t.core s).meta) where
  pub slot-none : m.state ≡ UNUSED → slot_text t s ≡ []
  unfolding slot_text
  slot-none e = rw (← here, e)

  pub slot-used : eqb 0 (state_code m.state) ≡ false → slot_text t s ≡ used_text t.books s (at t.core s)
  unfolding slot_text
  slot-used e = rw (← here, e)
