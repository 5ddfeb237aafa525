use Rattle.std.proofs.Common.{◌≡◌, ◌≤◌, ◌*◌, ◌-◌}
use Rattle.words.specs.Reading.{table_of}
use Rattle.promises.specs.Order.Chains.{on_core}
use Rattle.rules.specs.Sizes.{slot_count}
use Rattle.rules.specs.Moves.{sweep, hand_over}
use Rattle.promises.specs.Order.Sound.{Queued}
use Rattle.wakes.proofs.reparent.Given as goal

abbrev pub invariant-loop-b : goal.invariant-loop-b
invariant-loop-b l = (4 * l.b ≤ slot_count) × (table_of l.t ≡ on_core (sweep (hand_over l.init l.caller) (4 * l.b)) (table_of l.initial.t)) × Queued (table_of l.t).core

abbrev pub decreases-loop-b : goal.decreases-loop-b
decreases-loop-b l = slot_count - l.b
