-- Digits written from the last to the first.
use Prim.Native.Nat.{ℕ, zero, suc, ◌+◌, ◌-◌, ◌/◌, ◌%◌, ◌^◌, ◌<◌, ◌≤◌}
use native.Mathlib.Omega.{arith}
use mathlib.Core.Path.{◌≡◌, refl, sym, ap, ◌∙◌}
use mathlib.Core.List.{List, [], ◌∷◌, ◌++◌, append-nil}
use lib.ListN.{length, take, drop, set, replicate, length-set}
use lib.Seq.{length-take-le, append_snoc, set_split, drop_at}
use borrow.Author.Tests.{lt-ltb, le-ltb}
use Rattle.rules.specs.Listing.{digits_in, digits}

drop-set : (l : List ℕ) (k v : ℕ) → k < length l → drop k (set l k v) ≡ v ∷ drop (suc k) l
drop-set l k v h = rw (set_split l k v h) (drop_at (take k l) (v ∷ drop (suc k) l) k (length-take-le k l (omega arith)))

digits_last : (k n : ℕ) → n < 10 → digits_in (suc k) n ≡ (48 + n) ∷ []
unfolding digits_in
digits_last k n h = rw (lt-ltb n 10 h, digits_in)

digits_more : (k n : ℕ) → 10 ≤ n → digits_in (suc k) n ≡ digits_in k (n / 10) ++ ((48 + n % 10) ∷ [])
unfolding digits_in
digits_more k n h = rw (le-ltb n 10 h, digits_in)

-- the digits of rest are still to come before what stands in l past place k
pub record Left (n : ℕ) (l : List ℕ) (k rest : ℕ) : Type 0 where
  pub long : length l ≡ 20
  pub place : k < 20
  pub small : rest < 10 ^ suc k
  pub text : digits_in (suc k) rest ++ drop (suc k) l ≡ digits n

pub left-start : (n : ℕ) → n < 2 ^ 64 → Left n (replicate 20 0) 19 n
left-start n h = record { long = refl; place = omega arith; small = omega arith; text = unfold digits in append-nil _ }

pub left-room : {n : ℕ} {l : List ℕ} (k : ℕ) {rest : ℕ} → 10 ≤ rest → Left n l k rest → 0 < k
left-room zero h w = absurd (omega (arith, w.small))
left-room (suc k) h w = omega arith

pub left-more : {n : ℕ} {l : List ℕ} (k : ℕ) {rest : ℕ} → 10 ≤ rest → Left n l k rest → Left n (set l k (48 + rest % 10)) (k - 1) (rest / 10)
left-more zero h w = absurd (omega (arith, w.small))
left-more {n} {l} (suc k) {rest} h w =
    let e : suc k - 1 ≡ k = omega arith in
    rw e (record {
      long = length-set l (suc k) _ ∙ w.long;
      place = omega (arith, w.place);
      small = omega (arith, w.small);
      text =
          ap (λ (t : List ℕ). digits_in (suc k) (rest / 10) ++ t) (drop-set l (suc k) (48 + rest % 10) (omega (arith, w.place, w.long)))
          ∙ sym (append_snoc (digits_in (suc k) (rest / 10)) (48 + rest % 10) (drop (suc (suc k)) l))
          ∙ ap (λ (t : List ℕ). t ++ drop (suc (suc k)) l) (sym (digits_more (suc k) rest h))
          ∙ w.text;
    })

pub left-last : {n : ℕ} {l : List ℕ} {k rest : ℕ} → rest < 10 → Left n l k rest → drop k (set l k (48 + rest)) ≡ digits n
left-last {n} {l} {k} {rest} h w =
    drop-set l k (48 + rest) (omega (arith, w.place, w.long)) ∙ ap (λ (t : List ℕ). t ++ drop (suc k) l) (sym (digits_last k rest h)) ∙ w.text

pub ruleset left_steps = (left-start, left-room, left-last)
