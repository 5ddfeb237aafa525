-- A run of the calls that a list of words holds.
use Rattle.std.specs.Prelude.{ℕ, zero, suc, ◌/◌, ◌≡◌, List, [], ◌∷◌, length, drop, Option, Some, None}
use Rattle.rules.specs.Model.{Table}
use Rattle.rules.specs.Runs as rules
use Rattle.promises.specs.Order.Sound.{Sound}
use Rattle.buffers.specs.Text.{put}
use Rattle.steps.specs.declared.Call.{Call}
use Rattle.steps.specs.ByValue.{call_of, least}
use Rattle.answers.specs.Words.{answer_words, codes}
use Rattle.codes.specs.Codes.{call_words, call_in}

-- n calls at most, up to the first words that are none
abbrev pub followed : List ℕ → Option Call → List rules.Call → List rules.Call
followed text None rest = []
followed text (Some c) rest = call_of text c ∷ rest

unfoldable pub calls_in : ℕ → List ℕ → List ℕ → List rules.Call
calls_in zero text l = []
calls_in (suc n) text l = followed text (call_in l) (calls_in n text (drop call_words l))

-- what a run of these calls did to a table and to a lent list for their answers
pub record Ran (cs : List rules.Call) (t : Table) (b : List ℕ) (n : ℕ) (u : Table) (d : List ℕ) : Type 0 where
  pub count : n ≡ length cs
  pub table : u ≡ (rules.run t cs).table
  pub answers : d ≡ put b 0 (codes (rules.run t cs).answers)
  pub sound : Sound u

-- the calls that a run may make: within the budget, and with room for each answer
abbrev pub calls_within : ℕ → List ℕ → List ℕ → List ℕ → List rules.Call
calls_within budget text l b = calls_in (least budget (length b / answer_words)) text l
