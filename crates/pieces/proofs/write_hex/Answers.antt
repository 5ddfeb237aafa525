use Rattle.buffers.proofs.TextLaws.{wrote_none, wrote-more}
use Rattle.pieces.specs.Pieces.{hex_text}
use Rattle.pieces.proofs.PieceLaws.{hex-more}
use Rattle.std.proofs.Common.{arith}
use Rattle.pieces.proofs.write_hex.Goals as goal

pub loop-b-init : goal.loop-b-init
unfolding hex_text
loop-b-init c = record { text = wrote_none c.args.out.now c.args.at (omega arith); bound = omega arith }

pub loop-b-preserved : goal.loop-b-preserved
loop-b-preserved c = record {
  text = rw (hex-more c.args.name.now c.loop-b.b-index (omega arith), ← c.hex_digit.ensures, ← c.hex_digit-in-loop-b.ensures) (wrote-more c.loop-b.invariant.text c.write-on.ensures);
  bound = omega (arith, c.write-on.ensures.place);
}
