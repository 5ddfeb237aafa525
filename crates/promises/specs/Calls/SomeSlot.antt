-- Whether some slot passes a test, as a scan finds it.
use Rattle.std.specs.Prelude.{ℕ, zero, suc, ◌+◌, ◌<◌, ◌≡◌, refl, Bool, true, false, List, [], ◌∷◌, length, get_or, Option, Some, None}
use Rattle.std.proofs.Common.{arith, not-suc-le-zero, le_of_suc-le-suc}
use Rattle.promises.specs.Types.{Process}
use Rattle.rules.specs.Model.{Table, at, free}
use Rattle.rules.specs.Moves.{lowest}
use Rattle.rules.specs.Calls.{is_there}
use Rattle.promises.specs.Laws.Bools.{or_yes}
use Rattle.promises.specs.Laws.Scans.{lowest-passes, lowest-range, lowest-none}
use Rattle.promises.specs.Calls.RefusalTable.{passing, some_slot}

passing-yes : (test : ℕ → Process → Bool) (i k j : ℕ) (ps : List Process) → j ≡ i + k → k < length ps → test j (get_or ps k free) ≡ true → passing test i ps ≡ true
unfolding passing
passing-yes test i k j [] f r e = absurd (not-suc-le-zero r)
passing-yes test i zero j (p ∷ ps) f r e = let z : j ≡ i = omega (arith, f) in rw (rw z at e)
passing-yes test i (suc k) j (p ∷ ps) f r e = or_yes (test i p) (passing-yes test (suc i) k j ps (omega (arith, f)) (le_of_suc-le-suc r) e)

passing-no : (test : ℕ → Process → Bool) (i : ℕ) (ps : List Process) → ((k j : ℕ) → j ≡ i + k → k < length ps → test j (get_or ps k free) ≡ false) → passing test i ps ≡ false
unfolding passing
passing-no test i [] f = refl
passing-no test i (p ∷ ps) f = rw (f 0 i (omega arith) (omega arith)) (passing-no test (suc i) ps λ k j e r. f (suc k) j (omega (arith, e)) (omega (arith, r)))

module _ (t : Table) where
  pub some-yes : (test : ℕ → Process → Bool) (i : ℕ) → i < length t.core.slots → test i (at t.core i) ≡ true → some_slot t test ≡ true
  unfolding some_slot
  some-yes test i r e = passing-yes test 0 i i t.core.slots (omega arith) r e

  pub some-no : (test : ℕ → Process → Bool) → ((i : ℕ) → i < length t.core.slots → test i (at t.core i) ≡ false) → some_slot t test ≡ false
  unfolding some_slot
  some-no test f = passing-no test 0 t.core.slots λ k j e r. let z : j ≡ k = omega (arith, e) in rw z (f k r)

  -- as a scan finds it
  pub scan-none : (test : Process → Bool) → lowest test t.core.slots ≡ None → some_slot t (λ _. test) ≡ false
  scan-none test o = some-no (λ _. test) (lowest-none test t.core.slots free o)

  pub scan-some : (test : Process → Bool) (i : ℕ) → lowest test t.core.slots ≡ Some i → some_slot t (λ _. test) ≡ true
  scan-some test i o = some-yes (λ _. test) i (lowest-range test t.core.slots free i o) (lowest-passes test t.core.slots free i o)

  pub scan-any : (test : Process → Bool) → some_slot t (λ _. test) ≡ is_there (lowest test t.core.slots)
  scan-any test = go (lowest test t.core.slots) refl
    where
      go : (o : Option ℕ) → lowest test t.core.slots ≡ o → some_slot t (λ _. test) ≡ is_there o
      go None o = scan-none test o
      go (Some i) o = scan-some test i o
