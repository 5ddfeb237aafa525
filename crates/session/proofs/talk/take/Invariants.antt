use Rattle.std.proofs.Common.{take}
use Rattle.session.specs.Talk.{hears}
use Rattle.session.specs.Places.{seat_of, Seated}
use Rattle.session.proofs.talk.take.Given as goal

abbrev pub invariant-loop-i : goal.invariant-loop-i
invariant-loop-i l = Seated (hears (seat_of l.initial.t l.initial.line l.initial.out (record { len = l.initial.len; number = l.initial.number; at = l.initial.at })) (take l.i l.chunk)) l.initial.out l.t l.line l.out (record { len = l.len; number = l.number; at = l.at })
