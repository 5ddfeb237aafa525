-- The moves that calls are made of, each where it is allowed. Every call is a chain of these (Calls/Steps.antt).
use Rattle.std.specs.Prelude.{ℕ, ◌≤◌, ◌<◌, ◌≡◌, ◌≢◌, ◌⊎◌, true, false, length, Option, Some, None}
use Rattle.promises.specs.Types.{UNUSED, ALLOCATED, SLEEPING, ZOMBIE, Kin, Start, Slot}
use Rattle.rules.specs.Sizes.{pid_top, name_size, size_top, own_channel, first_device}
use Rattle.rules.specs.Model.{Core, Books, Table, at, hart_at, is, is_slot, known, slot, taken, to_killed, with_parent}
use Rattle.rules.specs.Moves.{change, publish, idle, yield_on, sleep_on, zombie_on, sleeps_on, wake_of, new_group, open_group, join_group, resize, set_init, reap}
use Rattle.rules.specs.Calls.{zombie_child_of, fill, spent}
use Rattle.promises.specs.Order.Sound.{Elder, names, Lives}

-- the scheduler's part moves, the books stay
unfoldable pub on_core : (Core → Core) → Table → Table
on_core f t = record { core = f t.core; books = t.books }

abbrev pub runs : Table → ℕ → ℕ → Type 0
runs t h s = hart_at t.core h ≡ Some (slot s)

-- where a caller s may lie down: on a device, in wait with no ZOMBIE child, or on a live thread of its own process
pub data Bed (t : Table) (s : ℕ) : ℕ → Type 0 where
  device : (ch : ℕ) → first_device ≤ ch → Bed t s ch
  waiting : ((j : ℕ) → zombie_child_of s (at t.core j) ≡ false) → Bed t s (own_channel s)
  joining : (i : ℕ) → s ≢ i → Lives (at t.core s) (at t.core i) → Bed t s (own_channel i)

-- when a caller s may become ZOMBIE: its children are handed over, and whoever should know is awake
pub record Farewell (t : Table) (s : ℕ) : Type 0 where
  pub mortal : is_slot s t.books.init ≡ false
  pub user : (at t.core s).kin.system ≡ false
  pub childless : (j : ℕ) → is_slot s (at t.core j).kin.parent ≡ false
  pub joiners : (at t.core s).kin.thread ≡ true → (j : ℕ) → sleeps_on (own_channel s) (at t.core j) ≡ false
  pub parent : (at t.core s).kin.thread ≡ false → (q : ℕ) → is_slot q (at t.core s).kin.parent ≡ true → sleeps_on (own_channel q) (at t.core q) ≡ false

-- a slot to be had, and a pid that no slot has
pub record Vacant (t : Table) (s : ℕ) : Type 0 where
  pub range : s < length t.core.slots
  pub unused : is UNUSED (at t.core s) ≡ true
  pub positive : 1 ≤ t.books.pids
  pub new : (j : ℕ) → (at t.core j).meta.pid.0 < t.books.pids

-- who may be born into slot s, and what becomes of the books
pub data Birth (t : Table) (s : ℕ) : Kin → Books → Type 0 where
  of_init : known t.books.init ≡ false → (size : ℕ) → size ≤ size_top
      → Birth t s (record { group = Some (new_group t.books); parent = None; thread = false; system = false }) (set_init s (open_group size t.books))
  of_system : Birth t s (record { group = None; parent = None; thread = false; system = true }) t.books
  of_child : known t.books.init ≡ true → (q : ℕ) → Elder (at t.core q) → (size : ℕ) → size ≤ size_top
      → Birth t s (record { group = Some (new_group t.books); parent = Some (slot q); thread = false; system = false }) (open_group size t.books)
  of_thread : known t.books.init ≡ true → (g : ℕ) (q : Option Slot) → known q ≡ true → ((x : ℕ) → is_slot x q ≡ true → Elder (at t.core x)) → (j : ℕ) → j < length t.core.slots → names g (at t.core j) ≡ true
      → Birth t s (record { group = Some g; parent = q; thread = true; system = false }) (join_group g t.books)

pub data Move : Table → Table → Type 0 where
  -- from ALLOCATED or SLEEPING; a RUNNING slot is published by yielding
  publishing : {t : Table} (s : ℕ) → (is ALLOCATED (at t.core s) ≡ true) ⊎ (is SLEEPING (at t.core s) ≡ true) → Move t (on_core (publish s) t)
  yielding : {t : Table} (h s : ℕ) → runs t h s → Move t (on_core (yield_on h s) t)
  sleeping : {t : Table} (h s ch : ℕ) → runs t h s → Bed t s ch → Move t (on_core (sleep_on h s ch) t)
  dying : {t : Table} (h s x : ℕ) → runs t h s → Farewell t s → Move t (on_core (zombie_on h s x) t)
  marking : {t : Table} (s : ℕ) → is UNUSED (at t.core s) ≡ false → Move t (on_core (change to_killed s) t)
  -- a slot that has a parent gets init, and init's channel is woken
  adopting : {t : Table} (i : ℕ) → known (at t.core i).kin.parent ≡ true
      → Move t (on_core (λ c. wake_of t.books.init (change (with_parent t.books.init) i c)) t)
  spending : {t : Table} → t.books.pids < pid_top → Move t (spent t)
  filling : {t : Table} (s : ℕ) (k : Kin) (b : Start) (d : Books) → Vacant t s → Birth t s k d → length b.name ≡ name_size
      → Move t (record { core = fill s (taken t.books.pids k b) t.core; books = d })
  freeing : {t : Table} (s : ℕ) → is ZOMBIE (at t.core s) ≡ true → Move t (reap s t)
  returning : {t : Table} (h s : ℕ) → runs t h s → (at t.core s).kin.system ≡ true → Move t (reap s (on_core (idle h) t))
  resizing : {t : Table} (g n j : ℕ) → n ≤ size_top → j < length t.core.slots → names g (at t.core j) ≡ true
      → Move t (record { core = t.core; books = resize g n t.books })

pub data Chain : Table → Table → Type 0 where
  still : {t : Table} → Chain t t
  and_then : {t u v : Table} → Chain t u → Move u v → Chain t v

pub one : {t u : Table} → Move t u → Chain t u
one m = and_then still m

pub chained : {t u v : Table} → Chain t u → Chain u v → Chain t v
chained a still = a
chained a (and_then b m) = and_then (chained a b) m
