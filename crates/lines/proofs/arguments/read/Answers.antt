use Rattle.lines.proofs.ArgumentLaws.{begun, one-not, next, too_many, all_there}
use Rattle.std.proofs.lemmas.Result.{err_from_is_err_and}
use Rattle.std.proofs.Common.{◌∙◌, ap, Err}
use Rattle.lines.proofs.arguments.read.Goals as goal

pub loop-i-init : goal.loop-i-init
loop-i-init c = begun c.args.kinds.now c.args.line.now c.args.w.now c.requires

pub loop-i-preserved : goal.loop-i-preserved
loop-i-preserved c =
    next _ _ _ c.loop-i.invariant c.loop-i-test.true _ c.next.ensures.word c.in_ok-w.ensures c.next.ensures.rest c.requires

pub returns-in_err-w : goal.returns-in_err-w
returns-in_err-w c =
    let p = err_from_is_err_and c.from_residual.result c.from_residual.ensures.1 in
    rw p.1 (one-not _ _ _ c.loop-i.invariant c.loop-i-test.true _ c.next.ensures.word (ap Err p.2 ∙ c.in_err-w.ensures) _)

pub returns-then-is_empty : goal.returns-then-is_empty
returns-then-is_empty c = all_there _ _ _ c.loop-i.invariant c.loop-i-test.false c.next-2.ensures.word c.if-is_empty.ensures

pub returns-else-is_empty : goal.returns-else-is_empty
returns-else-is_empty c = too_many _ _ _ c.loop-i.invariant c.loop-i-test.false c.next-2.ensures.word c.if-is_empty.ensures
