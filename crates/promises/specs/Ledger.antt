-- Pids, groups and unused slots, over every run: a pid is never given again, a count is the number of slots, an UNUSED slot is a freed one.
use Rattle.std.specs.Prelude.{ℕ, ◌≤◌, ◌≡◌, true, false, List, [], ◌∷◌, ◌++◌, Ok, Err}
use Rattle.promises.specs.Types.{UNUSED, Answer, Done, Made, Handed, Reaped, Joined, Blocked}
use Rattle.rules.specs.Sizes.{pid_top, size_top}
use Rattle.rules.specs.Model.{Table, at, group_at, free, is}
use Rattle.promises.specs.Laws.Counts.{tally}
use Rattle.promises.specs.Order.Sound.{names}

pub record Ledger (t : Table) : Type 0 where
  -- the pids of used slots are at least 1, at most the counter, and distinct
  pub pid-low : (s : ℕ) → is UNUSED (at t.core s) ≡ false → 1 ≤ (at t.core s).meta.pid.0
  pub pid-high : (s : ℕ) → (at t.core s).meta.pid.0 ≤ t.books.pids
  pub pid-once : (i j : ℕ) → is UNUSED (at t.core i) ≡ false → is UNUSED (at t.core j) ≡ false → (at t.core i).meta.pid.0 ≡ (at t.core j).meta.pid.0 → i ≡ j
  pub counter-top : t.books.pids ≤ pid_top
  -- a group's count is the number of slots that name it, whatever their state; at count 0 its size is 0
  pub group-count : (g : ℕ) → (group_at t.books g).count ≡ tally (names g) t.core.slots
  pub group_empty : (g : ℕ) → (group_at t.books g).count ≡ 0 → (group_at t.books g).size ≡ 0
  pub group-top : (g : ℕ) → (group_at t.books g).size ≤ size_top
  -- an UNUSED slot is exactly as a freed one
  pub unused-free : (s : ℕ) → is UNUSED (at t.core s) ≡ true → at t.core s ≡ free

-- ---- a pid is never given again
-- the pids that answers give, in order
abbrev pub given_by : Answer → List ℕ
given_by (Ok Done) = []
given_by (Ok (Made p)) = p.0 ∷ []
given_by (Ok (Handed s)) = []
given_by (Ok (Reaped p x)) = []
given_by (Ok (Joined x)) = []
given_by (Ok Blocked) = []
given_by (Err r) = []

unfoldable pub pids_given : List Answer → List ℕ
pids_given [] = []
pids_given (a ∷ l) = given_by a ++ pids_given l
