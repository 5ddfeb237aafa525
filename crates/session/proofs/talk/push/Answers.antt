use Rattle.session.proofs.TalkLaws.{kept-none, kept-one}
use Rattle.std.proofs.Common.{arith}
use Rattle.session.proofs.talk.push.Goals as goal

pub returns-then-len-lt-LINE : goal.returns-then-len-lt-LINE
returns-then-len-lt-LINE c = (kept-one c.args.line.now c.args.len c.requires.0 c.if-len-lt-LINE.true c.args.b, omega arith)

pub returns-else-len-lt-LINE : goal.returns-else-len-lt-LINE
returns-else-len-lt-LINE c = (kept-none c.args.line.now c.args.len c.requires.0 c.if-len-lt-LINE.false c.requires.1 c.args.b, c.requires.1)
