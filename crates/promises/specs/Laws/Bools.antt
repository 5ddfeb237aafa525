-- Laws of both, of either, and of two tests that clash.
use Rattle.std.specs.Prelude.{ℕ, ◌≡◌, refl, Bool, true, false, not, ◌&&◌, ◌||◌}
use Rattle.std.proofs.Common.{arith}

pub and_left : (a b : Bool) → (a && b) ≡ true → a ≡ true
and_left true b e = refl
and_left false b e = e

pub and_right : (a b : Bool) → (a && b) ≡ true → b ≡ true
and_right true b e = e
and_right false b e = cc

pub and_both : (a b : Bool) → a ≡ true → b ≡ true → (a && b) ≡ true
and_both true b e f = f
and_both false b e f = e

pub or_left : (a b : Bool) → (a || b) ≡ false → a ≡ false
or_left true b e = e
or_left false b e = refl

pub or_right : (a b : Bool) → (a || b) ≡ false → b ≡ false
or_right true b e = cc
or_right false b e = e

pub clash : {b : Bool} → b ≡ true → b ≡ false → ⊥
clash e f = let z : ◌≡◌ {A = ℕ} 0 1 = cc in omega arith

-- by the second alone
pub and_no : (a : Bool) {b : Bool} → b ≡ false → a && b ≡ false
and_no true e = e
and_no false e = refl

pub and_yes : (a : Bool) {b : Bool} → b ≡ true → a && b ≡ a
and_yes true e = e
and_yes false e = refl

pub or_yes : (a : Bool) {b : Bool} → b ≡ true → a || b ≡ true
or_yes true e = refl
or_yes false e = e

pub not-both : (a b : Bool) → not (a && b) ≡ not a || not b
not-both true b = refl
not-both false b = refl
