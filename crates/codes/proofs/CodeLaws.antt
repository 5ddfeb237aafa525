-- A call as the code reads it.
use Prim.Native.Nat.{ℕ, suc, ◌-◌, ◌^◌, ◌≤◌}
use native.Mathlib.Omega.{arith}
use mathlib.Core.Path.{◌≡◌, refl, sym, ap, ◌∙◌, subst}
use mathlib.Core.Bool.{Bool, true, false, cond}
use lib.ListN.{get_or-eq_default}
use lib.Dec.{ltb}
use lib.IntN.{ℤ, pos, negsuc}
use mir.Syntax.{w64}
use mir.Val.{Fits, SFits, to_z, of_z, sel}
use mir.Facts.{to_z-of_z, sfits_to_z}
use Rattle.std.specs.Prelude.{Option, None}
use Rattle.steps.specs.declared.Call.{Call}
use Rattle.codes.specs.Codes.{signed_of, calls, call_numbered}

-- ---- two's complement
signed_low : (n : ℕ) → to_z w64 n ≡ signed_of n
unfolding signed_of
signed_low n = go (ltb n (2 ^ 63))
  where
    go : (b : Bool) → sel b (pos n) (negsuc (2 ^ 64 - suc n)) ≡ cond b (pos n) (negsuc (2 ^ 64 - suc n))
    go true = refl
    go false = refl

pub count_read : (n : ℕ) {z : ℤ} → Fits w64 n → z ≡ to_z w64 n → to_z w64 (of_z w64 z) ≡ signed_of n
count_read n f e = to_z-of_z (subst (SFits w64) (sym e) (sfits_to_z f)) ∙ e ∙ signed_low n

-- ---- a call's number
pub past : {n k : ℕ} → n ≤ k → (k ≡ n → ⊥) → suc n ≤ k
past l d = omega arith

pub numbered-none : (n : ℕ) (w : ℕ → ℕ) → 16 ≤ n → None ≡ call_numbered n w
unfolding call_numbered calls
numbered-none n w h = ap (λ (g : (ℕ → ℕ) → Option Call). g w) (sym (get_or-eq_default calls (λ _. None) h))
