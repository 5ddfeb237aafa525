-- Text in a buffer.
use Rattle.std.specs.Prelude.{ℕ, ◌+◌, ◌≤◌, ◌≡◌, List, ◌++◌, length, take, drop}

-- b with the text from place k on
unfoldable pub put : List ℕ → ℕ → List ℕ → List ℕ
put b k text = take k b ++ text ++ drop (k + length text) b

-- text went into b from place k on, and left a; end is the place after it
pub record Wrote (b : List ℕ) (k : ℕ) (text a : List ℕ) (end : ℕ) : Type 0 where
  pub fits : k + length text ≤ length b
  pub buffer : a ≡ put b k text
  pub place : end ≡ k + length text
