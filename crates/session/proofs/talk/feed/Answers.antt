use Rattle.session.proofs.TalkLaws.{heard-end, heard-more}
use Rattle.session.proofs.talk.feed.Goals as goal

pub returns-then-b-eq10 : goal.returns-then-b-eq10
returns-then-b-eq10 c =
    heard-end c.args.t.now c.args.line.now c.args.out.now c.args.p c.args.b c.if-b-eq10.true c.end_line.ensures

pub returns : goal.returns
returns c =
    heard-more c.args.t.now c.args.line.now c.args.out.now c.args.p c.args.b c.if-b-eq10.false c.requires.sound c.requires.for_answer c.push.ensures.0 c.push.ensures.1
