use Rattle.wakes.proofs.WakeLaws.{hand-queued, sweep-none, sweep-four, reparent-all}
use Rattle.std.proofs.Common.{◌≡◌, arith, rules, ◌*◌}
use Rattle.words.specs.Reading.{table_of}
use Rattle.rules.specs.Sizes.{slot_count}
use Rattle.wakes.proofs.reparent.Goals as goal

pub loop-b-init : goal.loop-b-init
unfolding slot_count
loop-b-init c = (omega arith, sweep-none _ _, c.requires)

pub hand_over-requires-in-loop-b : goal.hand_over-requires-in-loop-b
unfolding slot_count
hand_over-requires-in-loop-b c = search (rules, hand-queued)

pub hand_over-requires-in-loop-b-2 : goal.hand_over-requires-in-loop-b-2
unfolding slot_count
hand_over-requires-in-loop-b-2 c = search (rules, hand-queued)

pub hand_over-requires-in-loop-b-3 : goal.hand_over-requires-in-loop-b-3
unfolding slot_count
hand_over-requires-in-loop-b-3 c = search (rules, hand-queued)

pub loop-b-preserved : goal.loop-b-preserved
unfolding slot_count
loop-b-preserved c = (
  omega arith,
  sweep-four _ _ (4 * c.loop-b.b) _ (omega arith) c.hand_over.ensures c.hand_over-in-loop-b.ensures c.hand_over-in-loop-b-2.ensures c.hand_over-in-loop-b-3.ensures c.loop-b.invariant.1,
  search (rules, hand-queued),
)

pub returns : goal.returns
unfolding slot_count
returns c =
    let e : 4 * c.loop-b.b ≡ slot_count = omega arith in
    reparent-all _ (table_of c.args.t.now) _ c.init-init.ensures.0 (rw e at c.loop-b.invariant.1)
