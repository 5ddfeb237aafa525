use Rattle.lines.specs.Values.{flag_in}
use Rattle.rules.specs.Listing.{bytes}
use Rattle.lines.proofs.WordLaws.{told-same}
use Rattle.lines.proofs.value.flag.Goals as goal

pub returns-then-eq : goal.returns-then-eq
unfolding flag_in bytes
returns-then-eq c = rw (told-same c.args.w.now c.as_slice.ensures c.eq.ensures c.if-eq.true)

pub returns-then-eq-2 : goal.returns-then-eq-2
unfolding flag_in bytes
returns-then-eq-2 c = rw (told-same c.args.w.now c.as_slice.ensures c.eq.ensures c.if-eq.false, told-same c.args.w.now c.as_slice-else-eq.ensures c.eq-else-eq.ensures c.if-eq-2.true)

pub returns-else-eq-2 : goal.returns-else-eq-2
unfolding flag_in bytes
returns-else-eq-2 c = rw (told-same c.args.w.now c.as_slice.ensures c.eq.ensures c.if-eq.false, told-same c.args.w.now c.as_slice-else-eq.ensures c.eq-else-eq.ensures c.if-eq-2.false)
