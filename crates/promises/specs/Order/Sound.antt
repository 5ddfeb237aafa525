-- What every table has that came from a fresh one by calls.
use Rattle.std.specs.Prelude.{ℕ, ◌≤◌, ◌<◌, ◌≡◌, ◌≢◌, Bool, true, false, length, eqb, Option, Some, None}
use Rattle.promises.specs.Types.{UNUSED, RUNNABLE, RUNNING, ZOMBIE, Process, Slot}
use Rattle.rules.specs.Sizes.{slot_count, group_count, hart_count, pid_top, name_size, size_top, own_channel}
use Rattle.rules.specs.Model.{Core, Books, Table, at, group_at, free, is, is_slot, known, same_group}
use Rattle.rules.specs.Moves.{sleeps_on}
use Rattle.rules.specs.Calls.{zombie_child_of, thread_of}
use Rattle.promises.specs.Laws.Counts.{ind, tally}

-- the queue holds exactly the RUNNABLE slots, once each; the harts exactly the RUNNING ones, once each; the flag agrees
pub record Queued (c : Core) : Type 0 where
  pub queue : (s : ℕ) → tally (eqb s) c.queue ≡ ind (is RUNNABLE (at c s))
  pub harts : (s : ℕ) → tally (is_slot s) c.harts ≡ ind (is RUNNING (at c s))
  pub flag : (s : ℕ) → (at c s).meta.queued ≡ is RUNNABLE (at c s)
  pub wide : length c.harts ≡ hart_count
  pub tall : length c.slots ≡ slot_count

-- the pids of used slots are distinct, at least 1 and at most the counter
pub record Numbered (c : Core) (n : ℕ) : Type 0 where
  pub low : (s : ℕ) → is UNUSED (at c s) ≡ false → 1 ≤ (at c s).meta.pid.0
  pub high : (s : ℕ) → (at c s).meta.pid.0 ≤ n
  pub once : (i j : ℕ) → is UNUSED (at c i) ≡ false → is UNUSED (at c j) ≡ false → (at c i).meta.pid.0 ≡ (at c j).meta.pid.0 → i ≡ j
  pub top : n ≤ pid_top

abbrev pub is_in : Option ℕ → Bool
is_in None = false
is_in (Some g) = true

-- a parent, a hart's slot or init, and a group, that the table has
abbrev pub InTable : Option Slot → Type 0
InTable None = Unit {0}
InTable (Some s) = s.0 < slot_count

abbrev pub InGroups : Option ℕ → Type 0
InGroups None = Unit {0}
InGroups (Some g) = g < group_count

-- a slot that others may have as their parent
pub record Elder (p : Process) : Type 0 where
  pub used : is UNUSED p ≡ false
  pub live : is ZOMBIE p ≡ false
  pub user : p.kin.system ≡ false

-- whoever has a parent has one that is there
pub record Raised (c : Core) : Type 0 where
  pub elder : (s q : ℕ) → is_slot q (at c s).kin.parent ≡ true → Elder (at c q)

-- init is a live user slot, no thread, and has no parent
pub record First (p : Process) : Type 0 where
  pub elder : Elder p
  pub leads : p.kin.thread ≡ false
  pub orphan : p.kin.parent ≡ None

-- what holds of slot s by itself, given where init is
pub record Tidy (init : Option Slot) (s : ℕ) (p : Process) : Type 0 where
  pub unused : is UNUSED p ≡ true → p ≡ free
  pub name : length p.start.name ≡ name_size
  -- a system thread stands alone, and is never ZOMBIE
  pub lone : p.kin.system ≡ true → (p.kin.group ≡ None) × (p.kin.parent ≡ None) × (p.kin.thread ≡ false) × (is ZOMBIE p ≡ false)
  -- a user slot has a group, came after init, and has a parent unless it is init
  pub group : is UNUSED p ≡ false → p.kin.system ≡ false → is_in p.kin.group ≡ true
  pub after : is UNUSED p ≡ false → p.kin.system ≡ false → known init ≡ true
  pub child : is UNUSED p ≡ false → p.kin.system ≡ false → is_slot s init ≡ false → known p.kin.parent ≡ true
  pub first : is_slot s init ≡ true → First p

abbrev pub names : ℕ → Process → Bool
names g p = same_group (Some g) p.kin.group

-- a group's count is the number of slots that name it, ZOMBIE ones included; at count 0 its size is 0, and it is never past the top
pub record Counted (c : Core) (b : Books) : Type 0 where
  pub tall : length b.groups ≡ group_count
  pub count : (g : ℕ) → (group_at b g).count ≡ tally (names g) c.slots
  pub empty : (g : ℕ) → (group_at b g).count ≡ 0 → (group_at b g).size ≡ 0
  pub top : (g : ℕ) → (group_at b g).size ≤ size_top

-- slot q is a live thread of the process of p
pub record Lives (p q : Process) : Type 0 where
  pub used : is UNUSED q ≡ false
  pub live : is ZOMBIE q ≡ false
  pub kin : thread_of p.kin.group q ≡ true

-- nobody sleeps in wait with a ZOMBIE child that is no thread; whoever sleeps on another slot sleeps on a live thread of its own process
pub record Asleep (c : Core) : Type 0 where
  pub waits : (s j : ℕ) → sleeps_on (own_channel s) (at c s) ≡ true → zombie_child_of s (at c j) ≡ false
  pub joins : (s i : ℕ) → i < slot_count → s ≢ i → sleeps_on (own_channel i) (at c s) ≡ true → Lives (at c s) (at c i)

-- what stands for document 01's "its table came from a fresh one by calls", and follows from it (Reached.antt)
pub record Sound (t : Table) : Type 0 where
  pub queued : Queued t.core
  pub numbered : Numbered t.core t.books.pids
  pub tidy : (s : ℕ) → Tidy t.books.init s (at t.core s)
  pub counted : Counted t.core t.books
  pub asleep : Asleep t.core
  pub raised : Raised t.core
