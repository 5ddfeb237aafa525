use Rattle.lines.proofs.ArgumentLaws.{Midway}
use Rattle.lines.proofs.arguments.read.Given as goal

abbrev pub invariant-loop-i : goal.invariant-loop-i
invariant-loop-i l = Midway l.kinds l.line l.initial.w l.w l.i l.rest
