-- What a scan finds.
use Rattle.std.specs.Prelude.{ℕ, ◌<◌, Bool, true, false, Option, Some, None, MatchOption}
use Rattle.rules.specs.Sizes.{slot_count}

abbrev pub InRange : Option ℕ → Type 0
InRange (Some i) = i < slot_count
InRange None = Unit {0}

-- the least index at which a test may give true, and below which it may give false; gives k b says that at k it may give b
pub record IsLeast (gives : ℕ → Bool → Type 0) (r : Option ℕ) : Type 0 where
  pub found : MatchOption r ((k : ℕ) → k < slot_count → gives k false) (λ i. (i < slot_count) × gives i true × ((k : ℕ) → k < i → gives k false))
