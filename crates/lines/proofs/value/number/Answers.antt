use Rattle.lines.proofs.ValueLaws.{digit-at, read-on, read-large, read-end, no_digit, not-digits, too_large, number_is}
use Rattle.std.proofs.Common.{◌≡◌, ◌∙◌, refl, sym, ap, arith, Err, None}
use Rattle.std.proofs.lemmas.Result.{err_from_is_err_and}
use Rattle.lines.proofs.value.number.Goals as goal
use Rattle.lines.proofs.value.number.Goals.{then-is_empty-via-then-is_empty, then-is_empty-via-else-is_empty+then-not-all_digits}

pub returns-then-is_empty : goal.returns-then-is_empty
returns-then-is_empty c = elim c.then-is_empty.branch [ then-is_empty-via-then-is_empty w ↦ no_digit c.args.w.now (sym w.if-is_empty.ensures) | then-is_empty-via-else-is_empty+then-not-all_digits w ↦ not-digits c.args.w.now (sym w.if-not-all_digits.ensures) ]

pub overflow_sub-b : goal.overflow_sub-b
overflow_sub-b c = (digit-at c.args.w.now c.loop-b.b-index (sym c.if-not-all_digits.ensures) c.loop-b-test.true).0

pub loop-b-init : goal.loop-b-init
loop-b-init c = (refl, omega arith)

pub returns-in_err-n : goal.returns-in_err-n
returns-in_err-n c =
    let p = err_from_is_err_and c.from_residual.result c.from_residual.ensures.1 in
    let none : c.append.result ≡ None = c.in_err-n.ensures.ok_part in
    let large = rw c.from.ensures at (rw none at c.append.ensures) in
    p.1 ∙ ap Err p.2 ∙ c.in_err-n.ensures.value ∙ rw none (too_large c.args.w.now (sym c.if-is_empty.ensures) (sym c.if-not-all_digits.ensures) (rw c.loop-b.invariant.0 (read-large c.args.w.now c.loop-b.n c.loop-b.b-index c.loop-b-test.true large)))

pub loop-b-preserved : goal.loop-b-preserved
loop-b-preserved c =
    let more = rw c.from.ensures at (rw c.in_ok-n.ensures.ok_part at c.append.ensures) in
    (c.loop-b.invariant.0 ∙ read-on c.args.w.now c.loop-b.n c.loop-b.b-index c.loop-b-test.true ∙ rw more.1, omega (arith, more.0, more.1))

pub returns : goal.returns
returns c = number_is c.args.w.now (sym c.if-is_empty.ensures) (sym c.if-not-all_digits.ensures) (c.loop-b.invariant.0 ∙ read-end c.args.w.now c.loop-b.n c.loop-b.b-index c.loop-b-test.false) c.loop-b.invariant.1
