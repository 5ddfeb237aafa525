use Rattle.ends.proofs.ReapLaws.{looks-more, looks-still}
use Rattle.std.proofs.Common.{◌≡◌, refl, arith}
use Rattle.rules.specs.Sizes.{slot_count}
use Rattle.rules.specs.Moves.{sweep}
use Rattle.rules.specs.Calls.{reap_threads}
use Rattle.ends.proofs.reap_threads.Goals as goal

pub loop-init : goal.loop-init
unfolding slot_count sweep
loop-init c = (omega arith, refl)

pub returns-then-not-reap_first : goal.returns-then-not-reap_first
returns-then-not-reap_first c =
    looks-still _ _ _ c.loop.invariant.0 c.loop.invariant.1 c.if-not-reap_first.ensures.0 c.if-not-reap_first.ensures.1

pub loop-smaller : goal.loop-smaller
unfolding slot_count
loop-smaller c = omega arith

pub loop-preserved : goal.loop-preserved
unfolding slot_count
loop-preserved c =
    (omega arith, looks-more _ _ _ c.reap_first.ensures.0 c.loop.invariant.1)

pub returns : goal.returns
unfolding slot_count reap_threads
returns c = let e : c.loop.counter ≡ slot_count = omega arith in rw e at c.loop.invariant.1
