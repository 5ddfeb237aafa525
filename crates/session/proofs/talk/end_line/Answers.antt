use Rattle.session.proofs.TalkLaws.{line-ended, too_long, in-full}
use Rattle.session.proofs.talk.end_line.Goals as goal

pub returns-then-p-lt-LINE : goal.returns-then-p-lt-LINE
returns-then-p-lt-LINE c =
    line-ended c.args.t.now c.args.line.now c.args.out.now c.args.p c.requires.for_answer (in-full c.args.line.now c.args.p.len c.requires.for_line c.if-p-lt-LINE.true c.answer-at.ensures)

pub returns-else-p-lt-LINE : goal.returns-else-p-lt-LINE
returns-else-p-lt-LINE c =
    line-ended c.args.t.now c.args.line.now c.args.out.now c.args.p c.requires.for_answer (too_long c.args.line.now c.args.p.len c.requires.for_line c.if-p-lt-LINE.false c.requires.len c.requires.sound c.write_misread-at.ensures.0 c.write_misread-at.ensures.1)
