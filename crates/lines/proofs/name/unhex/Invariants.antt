use Rattle.lines.proofs.ValueLaws.{Unhexed}
use Rattle.lines.proofs.name.unhex.Given as goal

abbrev pub invariant-loop-i : goal.invariant-loop-i
invariant-loop-i l = Unhexed l.digits l.initial.out l.i l.out
