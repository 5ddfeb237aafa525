use Rattle.lines.proofs.ValueLaws.{hex-is, plain-name, odd-hex, bad-hex, good-hex}
use Rattle.std.proofs.Common.{◌∙◌, sym}
use Rattle.lines.proofs.value.name_worth.Goals as goal
use Rattle.lines.proofs.value.name_worth.Goals.{else-digits-eq0-via-then-digits-eq0+else-all_digits, else-digits-eq0-via-else-digits-eq0}

pub returns-in_default : goal.returns-in_default
returns-in_default c = plain-name c.args.w.now (hex-is c.args.w.now ∙ c.in_default.ensures.cases)

pub returns-then-all_digits : goal.returns-then-all_digits
returns-then-all_digits c = good-hex c.args.w.now (hex-is c.args.w.now ∙ c.in-Some.ensures.cases.0) c.in-Some.ensures.cases.1 c.in-Some.ensures.cases.2 c.if-digits-eq0.true (sym c.if-all_digits.ensures)

pub returns-else-digits-eq0 : goal.returns-else-digits-eq0
returns-else-digits-eq0 c = elim c.else-digits-eq0.branch [ else-digits-eq0-via-then-digits-eq0+else-all_digits w ↦ bad-hex c.args.w.now (hex-is c.args.w.now ∙ c.in-Some.ensures.cases.0) c.in-Some.ensures.cases.1 c.in-Some.ensures.cases.2 (sym w.if-all_digits.ensures) | else-digits-eq0-via-else-digits-eq0 w ↦ odd-hex c.args.w.now (hex-is c.args.w.now ∙ c.in-Some.ensures.cases.0) c.in-Some.ensures.cases.1 c.in-Some.ensures.cases.2 w.if-digits-eq0.false ]
