-- First in, first out, over every run: a slot with k ahead is handed out by exactly the (k+1)th successful dispatch.
use Rattle.std.specs.Prelude.{ℕ, ◌-◌, ◌≤◌, ◌<◌, ◌≡◌, ◌≢◌, List, [], ◌∷◌, ◌++◌, length, get_or, Ok, Err}
use Rattle.promises.specs.Types.{Answer, Done, Made, Handed, Reaped, Joined, Blocked}
use Rattle.rules.specs.Model.{Table}
use Rattle.rules.specs.Calls.{Outcome}
use Rattle.rules.specs.Runs.{Call, run_by}
use Rattle.promises.specs.Reached.{reached}

-- the slots that answers hand out, in order: one for each successful dispatch
abbrev pub handed_by : Answer → List ℕ
handed_by (Ok Done) = []
handed_by (Ok (Made p)) = []
handed_by (Ok (Handed s)) = s.0 ∷ []
handed_by (Ok (Reaped p x)) = []
handed_by (Ok (Joined x)) = []
handed_by (Ok Blocked) = []
handed_by (Err r) = []

unfoldable pub handed_out : List Answer → List ℕ
handed_out [] = []
handed_out (a ∷ l) = handed_by a ++ handed_out l

-- ---- the turn of the slot with k ahead in queue q, where `out` is handed out since and r is the queue then
pub record Turn (q out r : List ℕ) (k : ℕ) : Type 0 where
  -- the (k+1)th successful dispatch hands it out, and none before that
  pub served : k < length out → get_or out k 0 ≡ get_or q k 0
  pub unserved : (i : ℕ) → i < k → i < length out → get_or out i 0 ≢ get_or q k 0
  -- until then it waits, with as many fewer ahead as were handed out
  pub waits : length out ≤ k → k - length out < length r
  pub place : length out ≤ k → get_or r (k - length out) 0 ≡ get_or q k 0

-- the promise, of any rule for one call: after any calls by the definition, whatever is called then
unfoldable pub FirstInFirstOut : (Table → Call → Outcome) → Type 0
FirstInFirstOut f = (before after : List Call) (k : ℕ) → k < length (reached before).core.queue
    → Turn (reached before).core.queue (handed_out (run_by f (reached before) after).answers) (run_by f (reached before) after).table.core.queue k
