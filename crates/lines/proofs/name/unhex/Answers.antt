use Rattle.lines.proofs.ValueLaws.{unhex-starts, unhex-goes, unhex-ends, first-is, second-is, first-small, second-small}
use Rattle.lines.specs.Values.{nibble}
use Rattle.std.proofs.Common.{◌∙◌, ap, arith}
use Rattle.lines.proofs.name.unhex.Goals as goal

pub loop-i-init : goal.loop-i-init
loop-i-init c = unhex-starts c.args.digits.now c.args.out.now

pub nibble-requires : goal.nibble-requires
nibble-requires c = first-small c.args.digits.now c.as_chunks.ensures.front c.as_chunks.ensures.front_len c.loop-i.i c.loop-i-test.true c.requires.0

pub overflow_mul-out : goal.overflow_mul-out
overflow_mul-out c = omega (arith, c.nibble.ensures, first-small c.args.digits.now c.as_chunks.ensures.front c.as_chunks.ensures.front_len c.loop-i.i c.loop-i-test.true c.requires.0)

pub nibble-requires-in-loop-i : goal.nibble-requires-in-loop-i
nibble-requires-in-loop-i c = second-small c.args.digits.now c.as_chunks.ensures.front c.as_chunks.ensures.front_len c.loop-i.i c.loop-i-test.true c.requires.0

pub overflow_add-out : goal.overflow_add-out
overflow_add-out c =
    omega (arith, c.nibble.ensures, c.nibble-in-loop-i.ensures, first-small c.args.digits.now c.as_chunks.ensures.front c.as_chunks.ensures.front_len c.loop-i.i c.loop-i-test.true c.requires.0, second-small c.args.digits.now c.as_chunks.ensures.front c.as_chunks.ensures.front_len c.loop-i.i c.loop-i-test.true c.requires.0)

pub loop-i-preserved : goal.loop-i-preserved
loop-i-preserved c =
    unhex-goes c.loop-i.invariant (c.nibble.ensures ∙ ap nibble (first-is c.args.digits.now c.as_chunks.ensures.front c.as_chunks.ensures.front_len c.loop-i.i c.loop-i-test.true)) (c.nibble-in-loop-i.ensures ∙ ap nibble (second-is c.args.digits.now c.as_chunks.ensures.front c.as_chunks.ensures.front_len c.loop-i.i c.loop-i-test.true))
    (omega (arith, c.as_chunks.ensures.front_len)) c.requires.1

pub returns : goal.returns
returns c = rw c.as_chunks.ensures.front_len (unhex-ends c.loop-i.invariant (omega (arith, c.as_chunks.ensures.front_len)) c.requires.1)
