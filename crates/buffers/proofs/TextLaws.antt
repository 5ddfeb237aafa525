-- Text that goes into a buffer piece by piece.
use Prim.Native.Nat.{ℕ, suc, ◌+◌, ◌-◌, ◌≤◌, ◌<◌}
use native.Mathlib.Omega.{arith}
use native.Mathlib.Nat.{add-zero, add_assoc}
use mathlib.Core.Path.{◌≡◌, refl, sym, ap, ◌∙◌}
use mathlib.Core.List.{List, [], ◌∷◌, ◌++◌, append_assoc, append-nil}
use lib.ListN.{length, set, take, drop, length-append, length-drop, take-append-drop}
use lib.Seq.{set_split, append_snoc, length-take-le, take_all, take_at, drop_at, drop-drop}
use Rattle.buffers.specs.Text.{put, Wrote}

module _ (b : List ℕ) (k : ℕ) (p : List ℕ) (fits : k + length p ≤ length b) where
  front_length : length (take k b ++ p) ≡ k + length p
  front_length = length-append (take k b) p ∙ ap (λ (n : ℕ). n + length p) (length-take-le k b (omega arith))

  put_front : take (k + length p) (put b k p) ≡ take k b ++ p
  unfolding put
  put_front = take_at (take k b ++ p) (drop (k + length p) b) (k + length p) front_length

  put_rest : drop (k + length p) (put b k p) ≡ drop (k + length p) b
  unfolding put
  put_rest = drop_at (take k b ++ p) (drop (k + length p) b) (k + length p) front_length

put-none : (b : List ℕ) (k : ℕ) → put b k [] ≡ b
unfolding put
put-none b k = rw (append-nil, add-zero) (take-append-drop k b)

put-more : (b : List ℕ) (k : ℕ) (p q : List ℕ) → k + length p ≤ length b → put (put b k p) (k + length p) q ≡ put b k (p ++ q)
put-more b k p q fits =
    unfold put in ap (λ (l : List ℕ). l ++ q ++ drop (k + length p + length q) (put b k p)) (put_front b k p fits)
    ∙ ap (λ (l : List ℕ). take k b ++ p ++ q ++ l)
    (sym (drop-drop (length q) (k + length p) (put b k p)) ∙ ap (drop (length q)) (put_rest b k p fits) ∙ drop-drop (length q) (k + length p) b
    ∙ ap (λ (n : ℕ). drop n b) (add_assoc k (length p) (length q) ∙ ap (λ (n : ℕ). k + n) (sym (length-append p q))))
    ∙ ap (λ (l : List ℕ). l ++ drop (k + length (p ++ q)) b) (append_assoc (take k b) p q)

put-length : (b : List ℕ) (k : ℕ) (p : List ℕ) → k + length p ≤ length b → length (put b k p) ≡ length b
unfolding put
put-length b k p fits = length-append (take k b ++ p) (drop (k + length p) b) ∙ omega (arith, front_length b k p fits, length-drop (k + length p) b)

module _ {b p a : List ℕ} {k m : ℕ} (u : Wrote b k p a m) where
  pub wrote-long : length a ≡ length b
  wrote-long = ap length u.buffer ∙ put-length b k p u.fits

  pub wrote-more : {q d : List ℕ} {n : ℕ} → Wrote a m q d n → Wrote b k (p ++ q) d n
  wrote-more {q} v = record {
    fits = omega (arith, v.fits, u.place, wrote-long, length-append p q);
    buffer = v.buffer ∙ rw (u.buffer, u.place) (put-more b k p q u.fits);
    place = v.place ∙ rw (u.place, length-append) (add_assoc k (length p) (length q));
  }

pub wrote_none : (b : List ℕ) (k : ℕ) → k ≤ length b → Wrote b k [] b k
wrote_none b k h = record { fits = rw add-zero h; buffer = sym (put-none b k); place = sym (add-zero k) }

-- what went in at the front
pub wrote-front : {b p a : List ℕ} {m : ℕ} → Wrote b 0 p a m → take m a ≡ p
unfolding put
wrote-front {b} {p} u = rw (u.buffer, u.place) (take_at p (drop (0 + length p) b) (0 + length p) (omega arith))

-- a store
pub wrote_one : (b : List ℕ) (k x : ℕ) → k < length b → Wrote b k (x ∷ []) (set b k x) (k + 1)
unfolding put
wrote_one b k x h = let z : k + 1 ≡ suc k = omega arith in record {
  fits = omega arith;
  buffer = set_split b k x h ∙ sym (append_snoc (take k b) x (drop (suc k) b)) ∙ ap (λ (n : ℕ). take k b ++ (x ∷ []) ++ drop n b) (sym z);
  place = refl;
}

-- the part of an array from k on
pub part-from : (l : List ℕ) (k n : ℕ) → length l ≡ n → take (n - k) (drop k l) ≡ drop k l
part-from l k n e = take_all (n - k) (drop k l) (omega (arith, length-drop k l))

-- ---- room for the pieces that follow
fits-first : (k : ℕ) (p q : List ℕ) {n : ℕ} → k + length (p ++ q) ≤ n → k + length p ≤ n
fits-first k p q h = omega (arith, length-append p q)

pub fits_next : {b p a : List ℕ} {k m : ℕ} (q : List ℕ) → k + length (p ++ q) ≤ length b → Wrote b k p a m → m + length q ≤ length a
fits_next {b} {p} q h u = omega (arith, u.place, wrote-long u, length-append p q)

pub three-first : (k : ℕ) (p q r : List ℕ) {n : ℕ} → k + length (p ++ q ++ r) ≤ n → k + length p ≤ n
three-first k p q r fits = fits-first k p q (fits-first k (p ++ q) r fits)

pub three-next : {b a : List ℕ} {k m : ℕ} (p q r : List ℕ) → k + length (p ++ q ++ r) ≤ length b → Wrote b k p a m → m + length q ≤ length a
three-next {k = k} p q r fits u = fits_next q (fits-first k (p ++ q) r fits) u

-- the text of a value that is known
pub wrote_as : {A : Type 0} (f : A → List ℕ) (y : A) {x : A} {b a : List ℕ} {k n : ℕ} → x ≡ y → Wrote b k (f y) a n → Wrote b k (f x) a n
wrote_as f y e w = rw e w

-- the same at once with its bound; and room for a text that is no longer
pub wrote-near : {A : Type 0} (f : A → List ℕ) (y : A) {x : A} {b a : List ℕ} {k n m : ℕ} → x ≡ y → length (f y) ≤ m → Wrote b k (f y) a n → Wrote b k (f x) a n × (n ≤ k + m)
wrote-near f y e h w = (wrote_as f y e w, omega (arith, w.place))

pub room-left : (k : ℕ) {j m n : ℕ} → j ≤ m → k + m ≤ n → k + j ≤ n
room-left k h r = omega arith
