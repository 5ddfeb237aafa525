use Rattle.std.proofs.Common.{◌≡◌, ℕ, ◌<◌, ◌≤◌, get_or}
use Rattle.rules.specs.Listing.{shown}
use Rattle.names.proofs.shown.shown_name.Given as goal

abbrev pub invariant-loop-b : goal.invariant-loop-b
invariant-loop-b l = record {
  done : (k : ℕ) → k < l.b-index → get_or l.b-items k 0 ≡ shown (get_or l.initial.b-items k 0);
  rest : (k : ℕ) → l.b-index ≤ k → get_or l.b-items k 0 ≡ get_or l.initial.b-items k 0;
}
