-- Every slot, hart and group that is read is one that the table has: what the definitions say beyond is never asked.
use Rattle.std.specs.Prelude.{ℕ, ◌≤◌, ◌<◌, ◌≡◌, Bool, get_or, Some}
use Rattle.std.proofs.Math.ListN.{length}
use Rattle.promises.specs.Types.{UNUSED, Process}
use Rattle.rules.specs.Sizes.{slot_count, group_count, hart_count}
use Rattle.rules.specs.Model.{Table, at, hart_at, group_at, is}
use Rattle.rules.specs.Moves.{lowest, new_group}
use Rattle.promises.specs.Order.Sound.{InTable, InGroups}

pub record Placed (t : Table) : Type 0 where
  pub slots : length t.core.slots ≡ slot_count
  pub harts : length t.core.harts ≡ hart_count
  pub groups : length t.books.groups ≡ group_count
  -- who stands in the queue, on a hart, as init, as a parent
  pub queued : (i : ℕ) → i < length t.core.queue → get_or t.core.queue i 0 < slot_count
  pub held : (h : ℕ) → InTable (hart_at t.core h)
  pub init : InTable t.books.init
  pub parent : (s : ℕ) → InTable (at t.core s).kin.parent
  -- whoever a scan finds
  pub found : (test : Process → Bool) (i : ℕ) → lowest test t.core.slots ≡ Some i → i < slot_count
  -- a slot's group, which counts it, so that it can leave; and the new group of a slot to be had
  pub group : (s : ℕ) → InGroups (at t.core s).kin.group
  pub counts : (s g : ℕ) → (at t.core s).kin.group ≡ Some g → 1 ≤ (group_at t.books g).count
  pub new : (s : ℕ) → lowest (is UNUSED) t.core.slots ≡ Some s → new_group t.books < group_count
