use Rattle.std.proofs.Common.{◌∙◌, ap, Err}
use Rattle.std.proofs.lemmas.Result.{err_from_is_err_and}
use Rattle.lines.specs.Values.{positive, negative}
use Rattle.lines.proofs.ValueLaws.{then_is, then-no, minus-count, plain-count}
use Rattle.lines.proofs.value.count.Goals as goal

pub returns-in_err-number-in-Some : goal.returns-in_err-number-in-Some
returns-in_err-number-in-Some c =
    let p = err_from_is_err_and c.from_residual.result c.from_residual.ensures.1 in
    p.1 ∙ ap Err p.2 ∙ minus-count c.args.w.now c.in-Some.ensures.cases.0 c.in-Some.ensures.cases.1 (then-no negative c.in_err-number-in-Some.ensures)

pub returns-in_err-number-in-None : goal.returns-in_err-number-in-None
returns-in_err-number-in-None c =
    let p = err_from_is_err_and c.from_residual-in_err-number-in-None.result c.from_residual-in_err-number-in-None.ensures.1 in
    p.1 ∙ ap Err p.2 ∙ plain-count c.args.w.now c.in-None.ensures.cases (then-no positive c.in_err-number-in-None.ensures)

pub returns-in_ok-number-in-Some : goal.returns-in_ok-number-in-Some
returns-in_ok-number-in-Some c =
    minus-count c.args.w.now c.in-Some.ensures.cases.0 c.in-Some.ensures.cases.1 (c.negative.ensures ∙ then_is negative c.in_ok-number-in-Some.ensures)

pub returns-in_ok-number-in-None : goal.returns-in_ok-number-in-None
returns-in_ok-number-in-None c =
    plain-count c.args.w.now c.in-None.ensures.cases (c.positive.ensures ∙ then_is positive c.in_ok-number-in-None.ensures)
