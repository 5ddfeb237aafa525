-- The least index at which a closure gives true is the lowest one at which the rules' test passes.
use Rattle.std.specs.Prelude.{Option, Some, None}
use Rattle.std.proofs.Common.{arith, sym}
use Prim.Native.Nat.{ℕ, zero, suc, ◌≤◌, ◌<◌}
use mathlib.Core.Path.{◌≡◌, refl, ◌∙◌}
use mathlib.Core.Bool.{Bool, true, false}
use mathlib.Core.List.{List}
use lib.ListN.{length, get_or, drop, drop_of_length-le}
use lib.Seq.{drop-cons}
use Rattle.rules.specs.declared.Process.{Process}
use Rattle.rules.specs.Sizes.{slot_count}
use Rattle.rules.specs.Model.{at, free}
use Rattle.rules.specs.Moves.{first_from, lowest}
use Rattle.words.specs.Reading.{table_of}
use Rattle.words.proofs.Facts.{slots-count}
use Rattle.scans.specs.Tests.{InRange, IsLeast}

module _ {A : Type 0} (test : A → Bool) (l : List A) (d : A) where
  -- where nothing below n passes, the scan goes on at n
  scan-past : (n : ℕ) → n ≤ length l → ((k : ℕ) → k < n → test (get_or l k d) ≡ false) → lowest test l ≡ first_from test (drop n l) n
  unfolding lowest first_from
  scan-past zero b h = refl
  scan-past (suc n) b h =
      let e : test (get_or l n d) ≡ false = h n (omega arith) in
      let m : n < length l = omega arith in
      scan-past n (omega arith) (λ k j. h k (omega arith)) ∙ rw (drop-cons l n d m) (rw (e, first_from))

  -- a closure that gives what the test does, at each index
  pub least-lowest : {gives : ℕ → Bool → Type 0} (r : Option ℕ) → length l ≡ slot_count → IsLeast gives r → ((k : ℕ) (b : Bool) → gives k b → b ≡ test (get_or l k d)) → r ≡ lowest test l
  unfolding first_from
  least-lowest (Some i) e f same =
      let m : i < length l = omega (arith, f.found.0) in
      sym (scan-past i (omega arith) (λ k j. sym (same k false (f.found.2 k j))) ∙ rw (drop-cons l i d m) (rw (sym (same i true f.found.1), first_from)))
  least-lowest None e f same =
      let m : length l ≤ slot_count = omega (arith, e) in
      sym (scan-past slot_count (omega (arith, e)) (λ k j. sym (same k false (f.found k j))) ∙ rw (drop_of_length-le l m))

in_range : {gives : ℕ → Bool → Type 0} (r : Option ℕ) → IsLeast gives r → InRange r
in_range (Some i) f = f.found.0
in_range None f = tt

-- .. over the table's slots
pub least-slot : (w : List ℕ) (test : Process → Bool) {gives : ℕ → Bool → Type 0} {r : Option ℕ} → IsLeast gives r → ((k : ℕ) (b : Bool) → gives k b → b ≡ test (at (table_of w).core k)) → (r ≡ lowest test (table_of w).core.slots) × InRange r
least-slot w test {gives} {r} f same = (least-lowest test (table_of w).core.slots free r (slots-count w) f same, in_range r f)
