-- A size plus a signed count, within the limits.
use Rattle.std.specs.Prelude.{Option, Some, None, Result, Ok, Err, SomeIff, OkIff, MatchOption, cond, leb}
use Rattle.std.specs.Result.{result_ok}
use Rattle.std.specs.Bool.{then_some}
use Rattle.std.specs.Int.{FitsUnsigned}
use Prim.Native.Nat.{ℕ, suc, ◌^◌, ◌≤◌, ◌<◌}
use native.Mathlib.Omega.{arith}
use mathlib.Core.Path.{◌≡◌, refl, ◌∙◌}
use mathlib.Core.Bool.{Bool, true, false}
use mathlib.Core.Logic.{◌⊎◌, inl, inr}
use lib.IntN.{ℤ, pos, negsuc, nat_abs, ◌+ℤ◌}
use mir.Syntax.{w64, w128}
use mir.Val.{SFits}
use borrow.Author.Tests.{lt-ltb, le-ltb, lt-leb, ltb-false, ltb-true}
use lib.Dec.{ltb}
use Rattle.std.proofs.lemmas.Bool.{cases_lt}
use Rattle.std.proofs.lemmas.Int.{ints}
use Rattle.rules.specs.Sizes.{size_top, slot_count, page_size, trampoline, trapframe}
use Rattle.rules.specs.Calls.{within}

-- what cannot be held is over the limit
over : (n : ℕ) → (FitsUnsigned w64 (pos n) → ⊥) → leb n size_top ≡ false
unfolding size_top trapframe trampoline page_size slot_count
over n f = go (ltb n (2 ^ 64)) refl
  where
    go : (b : Bool) → ltb n (2 ^ 64) ≡ b → leb n size_top ≡ false
    go true e = let z : n < 2 ^ 64 = ltb-true n (2 ^ 64) e in absurd (f (omega (arith, ints), omega (arith, ints)))
    go false e = let z : 2 ^ 64 ≤ n = ltb-false n (2 ^ 64) e in lt-leb n size_top (omega arith)

kept : {x n : ℕ} (b : Bool) → x ≡ n → then_some b x ≡ cond b (Some n) None
kept true e = cc
kept false e = refl

-- `filter` ran on the sum
pub filtered : {Gives : ℕ → Bool → Type 0} (o : Option ℕ) {r : Option ℕ} (z : ℤ) → SomeIff o (FitsUnsigned w64 z) (nat_abs z)
    → MatchOption o (r ≡ None) (λ x. (b : Bool) × Gives x b × (r ≡ then_some b x))
    → ((x : ℕ) (b : Bool) → Gives x b → b ≡ leb x size_top) → r ≡ within z
unfolding within
filtered None (pos n) f e t = rw (over n f) e
filtered None (negsuc n) f e t = e
filtered (Some x) (pos n) f (b, g, e) t = let k : x ≡ n = f.1 in rw (← k) (e ∙ rw (t x b g) (kept (leb x size_top) refl))
filtered (Some x) (negsuc n) f e t = absurd (omega (arith, ints, f.0))

-- the sum in 128 bits is the sum
pub sum-fits : (n : ℕ) (z : ℤ) → n < 2 ^ 64 → SFits w64 z → SFits w128 (pos n +ℤ z)
sum-fits n (pos m) a f = let g : m < 2 ^ 63 = f.sfits in record { sfits = omega arith }
sum-fits n (negsuc m) a f = go f.sfits (cases_lt n (suc m))
  where
    go : m < 2 ^ 63 → (n < suc m) ⊎ (suc m ≤ n) → SFits w128 (pos n +ℤ negsuc m)
    go g (inl l) = rw (lt-ltb n (suc m) l) record { sfits = omega arith }
    go g (inr l) = rw (le-ltb n (suc m) l) record { sfits = omega arith }

pub given : {E : Type 0} (P : Type 0) (v : ℕ) (r : Result ℕ E) (o : Option ℕ) → o ≡ result_ok r → OkIff r P v → SomeIff o P v
given P v (Ok x) o e d = rw e d
given P v (Err y) o e d = rw e d
