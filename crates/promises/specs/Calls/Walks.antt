-- The parts of calls as chains of moves: wake, kill, reparent, and exit's reaping of ZOMBIE threads.
use Rattle.std.specs.Prelude.{ℕ, ◌≡◌, Option, Some}
use Rattle.std.proofs.Math.Bool.{false}
use Rattle.promises.specs.Types.{ZOMBIE}
use Rattle.rules.specs.Model.{Core, Table, at, is}
use Rattle.rules.specs.Moves.{lowest}
use Rattle.rules.specs.Calls.{thread_of}

-- it leaves the harts alone, and who is a thread or a system thread
pub record Steady (c d : Core) : Type 0 where
  pub harts : d.harts ≡ c.harts
  pub thread : (j : ℕ) → (at d j).kin.thread ≡ (at c j).kin.thread
  pub system : (j : ℕ) → (at d j).kin.system ≡ (at c j).kin.system

-- what it leaves alone, besides a slot that is not ZOMBIE
pub record Spared (s : ℕ) (t u : Table) : Type 0 where
  pub harts : u.core.harts ≡ t.core.harts
  pub slot : at u.core s ≡ at t.core s
  pub init : u.books.init ≡ t.books.init
  pub pids : u.books.pids ≡ t.books.pids

-- afterwards the lowest thread, if there is one, is live: each look that reaps leaves one thread fewer
unfoldable pub Settled : Option ℕ → Table → Type 0
Settled m t = (i : ℕ) → lowest (thread_of m) t.core.slots ≡ Some i → is ZOMBIE (at t.core i) ≡ false
