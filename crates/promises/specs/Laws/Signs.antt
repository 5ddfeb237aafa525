-- Numbers below 0 as the machine computes with them, at any width: a negative one, the least too, is `mag` and one more below 0.
use Rattle.std.specs.Prelude.{ℕ, zero, suc, ◌+◌, ◌-◌, ◌≡◌, refl, true, false, T, ltb, ℤ, pos, negsuc, nat_abs, ◌-ℤ◌}
use Rattle.std.proofs.Common.{arith, sym, ap, ◌∙◌, to_z-of_z, le-ltb, ltb-true}
use Rattle.std.specs.Int.Signed.{mag, lt_z, non_neg}
use Rattle.std.specs.Int.{Width}
use mir.Val.{Fits, SFits, to_z, of_z, bits, hbits}
use Rattle.std.proofs.Math.Facts.{Fits-nat_abs}

-- a value, held in bits and read back
abbrev pub again : Width → ℤ → ℤ
again w z = to_z w (of_z w z)

pub minus : (n : ℕ) → negsuc 0 -ℤ pos n ≡ negsuc n
minus zero = refl
minus (suc n) = let z : 0 + n ≡ n = omega arith in ap (λ (k : ℕ). negsuc (suc k)) z

back : (n : ℕ) → negsuc 0 -ℤ negsuc n ≡ pos n
back n = let z : suc n - 1 ≡ n = omega arith in rw (le-ltb (suc n) 1 (omega arith), z)

below : (z : ℤ) → lt_z z (pos 0) ≡ true → z ≡ negsuc (mag z)
below (pos n) e = absurd (let b = ltb-true n 0 e in omega arith)
below (negsuc n) e = refl

above : (z : ℤ) → lt_z z (pos 0) ≡ false → z ≡ pos (mag z)
above (pos n) e = refl
above (negsuc n) e = cc

-- what a cast to an unsigned width asks
cast_fits : {w v : Width} (n : ℕ) {y : ℤ} → T (ltb (hbits w) (bits v)) → SFits w (pos n) → y ≡ pos n → T (non_neg y) × Fits v (nat_abs y)
cast_fits n t f e = rw e (tt, Fits-nat_abs t f)

module _ {w : Width} (z : ℤ) (f : SFits w z) where
  positive : SFits w (pos (mag z))
  positive = record { sfits = f.sfits }

  module _ (e : lt_z (again w z) (pos 0) ≡ true) where
    pub down : z ≡ negsuc (mag z)
    down = below z (ap (λ (y : ℤ). lt_z y (pos 0)) (sym (to_z-of_z f)) ∙ e)

    one_less : negsuc 0 -ℤ again w z ≡ pos (mag z)
    one_less = ap (λ (y : ℤ). negsuc 0 -ℤ y) (to_z-of_z f ∙ down) ∙ back (mag z)

    pub less-fits : SFits w (negsuc 0 -ℤ again w z)
    less-fits = rw one_less positive

    pub less-is : again w (negsuc 0 -ℤ again w z) ≡ pos (mag z)
    less-is = to_z-of_z less-fits ∙ one_less

    pub less-cast : {v : Width} → T (ltb (hbits w) (bits v)) → T (non_neg (again w (negsuc 0 -ℤ again w z))) × Fits v (nat_abs (again w (negsuc 0 -ℤ again w z)))
    less-cast t = cast_fits (mag z) t positive less-is

  module _ (e : lt_z (again w z) (pos 0) ≡ false) where
    pub more : z ≡ pos (mag z)
    more = above z (ap (λ (y : ℤ). lt_z y (pos 0)) (sym (to_z-of_z f)) ∙ e)

    pub more-is : again w z ≡ pos (mag z)
    more-is = to_z-of_z f ∙ more

    pub more-cast : {v : Width} → T (ltb (hbits w) (bits v)) → T (non_neg (again w z)) × Fits v (nat_abs (again w z))
    more-cast t = cast_fits (mag z) t positive more-is
