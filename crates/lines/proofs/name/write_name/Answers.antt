use Rattle.lines.proofs.ValueLaws.{hex-is, hex-digits, hex-name, own_name}
use Rattle.std.proofs.Common.{◌∙◌, arith}
use Rattle.lines.proofs.name.write_name.Goals as goal

pub unhex-requires : goal.unhex-requires
unhex-requires c = (rw c.in-Some.ensures.cases.1 (hex-digits c.args.w.now c.requires.0 (hex-is c.args.w.now ∙ c.in-Some.ensures.cases.0)), omega (arith, c.in-Some.ensures.cases.2, c.requires.1))

pub returns-in-Some : goal.returns-in-Some
returns-in-Some c = rw (hex-name c.args.w.now (hex-is c.args.w.now ∙ c.in-Some.ensures.cases.0), ← c.in-Some.ensures.cases.1) c.unhex.ensures

pub returns-in-None : goal.returns-in-None
returns-in-None c = rw (own_name c.args.w.now (hex-is c.args.w.now ∙ c.in-None.ensures.cases)) c.write.ensures
