use Rattle.buffers.proofs.TextLaws.{wrote-more}
use Rattle.promises.specs.Laws.Digits.{digits-length}
use Rattle.std.proofs.Common.{arith}
use Rattle.pieces.proofs.write_field.Goals as goal

pub write-requires : goal.write-requires
write-requires c = omega (arith, digits-length c.args.n)

pub returns : goal.returns
returns c = (wrote-more c.write-on.ensures c.write.ensures, omega (arith, digits-length c.args.n))
