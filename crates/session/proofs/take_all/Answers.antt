use Rattle.session.proofs.StandLaws.{begun, room-made, nearer, next, all-heard}
use Rattle.std.proofs.Common.{arith}
use Rattle.session.proofs.take_all.Goals as goal

pub loop-done-init : goal.loop-done-init
loop-done-init g c =
    begun c.args.chunk.now c.requires

pub make_room-requires : goal.make_room-requires
make_room-requires g c = room-made c.loop-done.invariant c.take-e.ensures c.take-e.auto.out

pub loop-done-smaller : goal.loop-done-smaller
loop-done-smaller g c = omega (arith, nearer c.loop-done.invariant c.take-e.ensures c.take-e.auto.out c.loop-done-test.true)

pub loop-done-preserved : goal.loop-done-preserved
loop-done-preserved g c =
    next c.loop-done.invariant c.take-e.ensures c.take-e.auto.out c.loop-done-test.true c.take-e.auto.line c.take-e.auto.name c.make_room.ensures.1

pub returns : goal.returns
returns g c = all-heard c.loop-done.invariant c.loop-done-test.false
