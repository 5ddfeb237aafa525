use Rattle.session.specs.Places.{seat_of}
use Rattle.session.specs.Turns.{HeardSome}
use Rattle.session.proofs.hear.Given as goal

abbrev pub invariant-loop : goal.invariant-loop
invariant-loop g l = HeardSome (seat_of l.initial.t l.initial.line l.initial.out l.initial.p) l.t l.line l.name l.out l.p
