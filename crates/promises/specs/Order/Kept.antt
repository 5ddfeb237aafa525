-- Every allowed move keeps a table sound, and so does a dispatch and a chain; moves only add to the queue, at its tail.
use Rattle.std.specs.Prelude.{ℕ, ◌≡◌, List, ◌++◌}

-- ---- the queue only grows, at its tail
pub record Grows (q r : List ℕ) : Type 0 where
  pub new : List ℕ
  pub split : r ≡ q ++ new
