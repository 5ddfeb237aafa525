use Rattle.std.proofs.Common.{arith}
use Rattle.session.proofs.TalkLaws.{closed-empty, closed-line}
use Rattle.session.proofs.talk.close.Goals as goal

pub returns-then-p-eq0 : goal.returns-then-p-eq0
returns-then-p-eq0 c =
    closed-empty c.args.t.now c.args.line.now c.args.out.now c.args.p (omega arith) c.requires.sound c.requires.for_answer

pub returns : goal.returns
returns c =
    closed-line c.args.t.now c.args.line.now c.args.out.now c.args.p c.requires.for_line c.requires.len c.if-p-eq0.false c.end_line.ensures
