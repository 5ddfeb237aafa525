use Rattle.wakes.proofs.WakeLaws.{wake-queued, sweep-none, sweep-four, wake-all}
use Rattle.std.proofs.Common.{◌≡◌, arith, rules, ◌*◌}
use Rattle.rules.specs.Sizes.{slot_count}
use Rattle.wakes.proofs.wake_up.Goals as goal

pub loop-b-init : goal.loop-b-init
unfolding slot_count
loop-b-init c = (omega arith, sweep-none _ _, c.requires)

pub wake_one-requires-in-loop-b : goal.wake_one-requires-in-loop-b
unfolding slot_count
wake_one-requires-in-loop-b c = search (rules, wake-queued)

pub wake_one-requires-in-loop-b-2 : goal.wake_one-requires-in-loop-b-2
unfolding slot_count
wake_one-requires-in-loop-b-2 c = search (rules, wake-queued)

pub wake_one-requires-in-loop-b-3 : goal.wake_one-requires-in-loop-b-3
unfolding slot_count
wake_one-requires-in-loop-b-3 c = search (rules, wake-queued)

pub loop-b-preserved : goal.loop-b-preserved
unfolding slot_count
loop-b-preserved c = (
  omega arith,
  sweep-four _ _ (4 * c.loop-b.b) _ (omega arith) c.wake_one.ensures c.wake_one-in-loop-b.ensures c.wake_one-in-loop-b-2.ensures c.wake_one-in-loop-b-3.ensures c.loop-b.invariant.1,
  search (rules, wake-queued),
)

pub returns : goal.returns
unfolding slot_count
returns c = let e : 4 * c.loop-b.b ≡ slot_count = omega arith in wake-all _ _ (rw e at c.loop-b.invariant.1)
