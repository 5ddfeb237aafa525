-- The rules' moves of one slot, as the accessors make them.
use Rattle.std.specs.Prelude.{Some}
use Prim.Native.Nat.{ℕ}
use mathlib.Core.Path.{◌≡◌, ap, ◌∙◌}
use Rattle.rules.specs.declared.Process.{Process}
use Rattle.rules.specs.Model.{Table, slot, to_runnable, to_running}
use Rattle.rules.specs.Moves.{change, publish, hand, idle}
use Rattle.promises.specs.Order.Chains.{on_core}
use Rattle.words.specs.Effects.{with_hart, with_queue, enqueue}

-- u is t with the slot's meta changed
module _ (t : Table) (s : ℕ) {u : Table} where
  pub publish-law : u ≡ on_core (change to_runnable s) t → on_core (enqueue s) u ≡ on_core (publish s) t
  unfolding publish enqueue with_queue on_core
  publish-law e = ap (on_core (enqueue s)) e

  pub hand-law : (h : ℕ) → u ≡ on_core (change to_running s) t → on_core (with_hart h (Some (slot s))) u ≡ on_core (λ c. hand h s c.queue c) t
  unfolding hand change with_hart on_core
  hand-law h e = ap (on_core (with_hart h (Some (slot s)))) e

module _ (t : Table) (h s : ℕ) {u : Table} (e : u ≡ on_core (idle h) t) where
  -- the caller stops, and is what f makes of it
  pub stop-law : (f : Process → Process) {v : Table} → v ≡ on_core (change f s) u → v ≡ on_core (λ c. change f s (idle h c)) t
  unfolding on_core
  stop-law f q = q ∙ ap (on_core (change f s)) e
