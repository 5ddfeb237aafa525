-- What the Rust panics about cannot happen: its tests on the queue, parents and groups, of every sound table, so also half way through a call.
use Rattle.std.specs.Prelude.{ℕ, ◌≤◌, ◌<◌, ◌≡◌, ◌⊎◌, List, ◌∷◌, length, eqb, Some, None}
use Rattle.std.proofs.Math.Bool.{true, false}
use Rattle.promises.specs.Types.{ProcState, UNUSED, ALLOCATED, RUNNABLE, RUNNING, SLEEPING, ZOMBIE}
use Rattle.rules.specs.Sizes.{slot_count}
use Rattle.rules.specs.Model.{Table, at, is, is_slot, known, slot}
use Rattle.rules.specs.Moves.{reparent}
use Rattle.rules.specs.Calls.{reap_threads}
use Rattle.promises.specs.Laws.Counts.{tally}
use Rattle.promises.specs.Order.Sound.{is_in}
use Rattle.promises.specs.Order.Chains.{runs}
use Rattle.promises.specs.Order.CountedKept.{Empty}

-- all of it, of every table that calls make of a fresh one
pub record NoPanic (t : Table) : Type 0 where
  pub fits : length t.core.queue ≤ slot_count
  pub publishes : (s : ℕ) (a : ProcState) → is a (at t.core s) ≡ true → a ≡ ALLOCATED ⊎ (a ≡ RUNNING ⊎ a ≡ SLEEPING)
      → ((at t.core s).meta.queued ≡ false) × (tally (eqb s) t.core.queue ≡ 0) × (length t.core.queue < slot_count)
  pub dispatches : (s : ℕ) (rest : List ℕ) → t.core.queue ≡ s ∷ rest → (is RUNNABLE (at t.core s) ≡ true) × ((at t.core s).meta.queued ≡ true)
  pub groups : (s : ℕ) → s < length t.core.slots → is UNUSED (at t.core s) ≡ true → Empty t.books
  pub heirs : (i : ℕ) → known (at t.core i).kin.parent ≡ true → known t.books.init ≡ true
  -- "exiting process has no address space", "user process has no address space": whoever is no system thread has a group; and only such a slot is ZOMBIE
  pub spaces : (s : ℕ) → is UNUSED (at t.core s) ≡ false → (at t.core s).kin.system ≡ false → is_in (at t.core s).kin.group ≡ true
  pub zombies : (s : ℕ) → is ZOMBIE (at t.core s) ≡ true → (at t.core s).kin.system ≡ false
  -- wait's caller, for a child that it found: whoever is a parent has a group
  pub elders : (s q : ℕ) → (at t.core s).kin.parent ≡ Some (slot q) → is_in (at t.core q).kin.group ≡ true
  -- the asserts: a slot that is taken or freed is not marked queued, and a system thread has no address space
  pub marked : (s : ℕ) → (at t.core s).meta.queued ≡ is RUNNABLE (at t.core s)
  pub alone : (s : ℕ) → (at t.core s).kin.system ≡ true → (at t.core s).kin.group ≡ None
  pub parents : (h s : ℕ) → runs t h s → (at t.core s).kin.system ≡ false → is_slot s t.books.init ≡ false
      → let u = reap_threads (at t.core s).kin.group t in known (at (reparent u.books.init s u.core) s).kin.parent ≡ true
