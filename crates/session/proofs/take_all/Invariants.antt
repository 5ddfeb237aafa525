use Rattle.session.proofs.StandLaws.{Midway}
use Rattle.session.specs.Places.{seat_of}
use Rattle.std.proofs.Common.{◌-◌, length}
use Rattle.session.proofs.take_all.Given as goal

abbrev pub invariant-loop-done : goal.invariant-loop-done
invariant-loop-done g l = Midway (seat_of l.initial.t l.initial.line l.initial.out l.initial.p) l.chunk l.t l.line l.name l.out l.p l.done

abbrev pub decreases-loop-done : goal.decreases-loop-done
decreases-loop-done g l = length l.chunk - l.done
