use Rattle.std.proofs.Common.{arith}
use Rattle.runs.proofs.RunLaws.{begun, room, next, none_left, all_done, first-none, first-call, most-fits}
use Rattle.runs.proofs.run.Goals as goal

pub loop-n-init : goal.loop-n-init
loop-n-init c =
    begun _ _ _ _ _ c.requires

pub write-requires : goal.write-requires
write-requires c =
    omega (arith, room _ _ _ _ _ c.loop-n.invariant (omega arith) (most-fits c.args.out.now c.least-most.ensures.1))

pub loop-n-preserved : goal.loop-n-preserved
loop-n-preserved c =
    next _ _ _ _ _ c.loop-n.invariant _ (first-call c.args.calls.now _ c.first.result c.first.ensures c.in-Some.is) (omega arith) (most-fits c.args.out.now c.least-most.ensures.1) c.step-a.ensures c.write.ensures c.write.auto.b

pub returns-in_default : goal.returns-in_default
returns-in_default c =
    none_left _ _ _ _ _ c.loop-n.invariant c.least-most.ensures.0 (first-none c.args.calls.now _ c.first.result c.first.ensures (cc))

pub returns : goal.returns
returns c = all_done _ _ _ _ _ c.loop-n.invariant c.least-most.ensures.0 (omega arith)
