use Rattle.lines.specs.Values.{wish_in}
use Rattle.rules.specs.Listing.{bytes}
use Rattle.lines.proofs.WordLaws.{told-same}
use Rattle.lines.proofs.value.wish.Goals as goal

pub returns-then-eq : goal.returns-then-eq
unfolding wish_in bytes
returns-then-eq c = rw (told-same c.args.w.now c.as_slice.ensures c.eq.ensures c.if-eq.true)

pub returns-then-eq-2 : goal.returns-then-eq-2
unfolding wish_in bytes
returns-then-eq-2 c = rw (told-same c.args.w.now c.as_slice.ensures c.eq.ensures c.if-eq.false, told-same c.args.w.now c.as_slice-else-eq.ensures c.eq-else-eq.ensures c.if-eq-2.true)

pub returns-then-eq-3 : goal.returns-then-eq-3
unfolding wish_in bytes
returns-then-eq-3 c = rw (told-same c.args.w.now c.as_slice.ensures c.eq.ensures c.if-eq.false, told-same c.args.w.now c.as_slice-else-eq.ensures c.eq-else-eq.ensures c.if-eq-2.false, told-same c.args.w.now c.as_slice-else-eq-2.ensures c.eq-else-eq-2.ensures c.if-eq-3.true)

pub returns-else-eq-3 : goal.returns-else-eq-3
unfolding wish_in bytes
returns-else-eq-3 c = rw (told-same c.args.w.now c.as_slice.ensures c.eq.ensures c.if-eq.false, told-same c.args.w.now c.as_slice-else-eq.ensures c.eq-else-eq.ensures c.if-eq-2.false, told-same c.args.w.now c.as_slice-else-eq-2.ensures c.eq-else-eq-2.ensures c.if-eq-3.false)
