use Rattle.session.proofs.TalkLaws.{none-heard, next}
use Rattle.std.proofs.Common.{arith}
use Rattle.rules.specs.Sizes.{slot_count, hart_count, name_size}
use Rattle.session.proofs.talk.take.Goals as goal

pub overflow_sub-last : goal.overflow_sub-last
unfolding slot_count hart_count name_size
overflow_sub-last c =
    omega (arith, c.requires.for_answer)

pub loop-i-init : goal.loop-i-init
loop-i-init c = none-heard c.args.chunk.now c.requires

pub returns-then-at-last : goal.returns-then-at-last
unfolding slot_count hart_count name_size
returns-then-at-last c = record {
  holds = c.loop-i.invariant;
  used = omega (arith, c.loop-i-test.true);
  all = λ h. absurd (omega (arith, h, c.if-at-last.true, c.loop-i.auto.out));
}

pub feed-e-requires : goal.feed-e-requires
unfolding slot_count hart_count name_size
feed-e-requires c = record {
  sound = c.loop-i.invariant.sound;
  for_line = omega (arith, c.requires.for_line, c.loop-i.auto.line);
  for_name = omega (arith, c.requires.for_name, c.loop-i.auto.name);
  len = c.loop-i.invariant.len;
  for_answer = omega (arith, c.requires.for_answer, c.if-at-last.false, c.loop-i.auto.out);
}

pub loop-i-preserved : goal.loop-i-preserved
loop-i-preserved c = next _ _ _ c.loop-i.invariant c.feed-e.ensures c.loop-i-test.true
