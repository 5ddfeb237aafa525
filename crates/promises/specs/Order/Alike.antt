-- What most moves leave alone of every slot: its pid, its group, and whether it is used. With that, a move is one of five kinds.
use Rattle.std.specs.Prelude.{ℕ, ◌≤◌, ◌<◌, ◌≡◌, true, false, List, length, get_or}
use Rattle.promises.specs.Types.{UNUSED, Process, Kin, Start}
use Rattle.rules.specs.Sizes.{pid_top, size_top}
use Rattle.rules.specs.Model.{Core, Books, Table, at, free, taken, is}
use Rattle.rules.specs.Moves.{resize, reap}
use Rattle.rules.specs.Calls.{fill, spent}
use Rattle.promises.specs.Order.Sound.{names}
use Rattle.promises.specs.Order.Chains.{Vacant, Birth}

pub record Alike (p y : Process) : Type 0 where
  pub pid : y.meta.pid ≡ p.meta.pid
  pub group : y.kin.group ≡ p.kin.group
  pub used : is UNUSED y ≡ is UNUSED p

pub record Alikes (l m : List Process) : Type 0 where
  pub all : (j : ℕ) → Alike (get_or l j free) (get_or m j free)
  pub long : length m ≡ length l

-- a move, as pids and groups see it
pub data View (t : Table) : Table → Type 0 where
  stirs : (c : Core) → Alikes t.core.slots c.slots → View t (record { core = c; books = t.books })
  spends : t.books.pids < pid_top → View t (spent t)
  fills : (s : ℕ) (k : Kin) (b : Start) (d : Books) → Vacant t s → Birth t s k d
      → View t (record { core = fill s (taken t.books.pids k b) t.core; books = d })
  frees : (s : ℕ) (c : Core) → c.slots ≡ t.core.slots → is UNUSED (at c s) ≡ false → View t (reap s (record { core = c; books = t.books }))
  resizes : (g n j : ℕ) → n ≤ size_top → j < length t.core.slots → names g (at t.core j) ≡ true → View t (record { core = t.core; books = resize g n t.books })
