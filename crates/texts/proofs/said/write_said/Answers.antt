use Rattle.std.proofs.Common.{arith}
use Rattle.buffers.proofs.TextLaws.{wrote_as, wrote-more}
use Rattle.pieces.specs.Pieces.{field}
use Rattle.texts.specs.Texts.{said_of}
use Rattle.rules.specs.Listing.{bytes}
use Rattle.texts.proofs.said.write_said.Goals as goal

pub returns-in-Ok : goal.returns-in-Ok
returns-in-Ok c =
    (wrote_as said_of _ {x = c.args.a} c.in-Ok.is c.write_grant.ensures.0, c.write_grant.ensures.1)

pub returns-in-Err : goal.returns-in-Err
unfolding said_of field bytes
returns-in-Err c =
    (wrote_as said_of _ {x = c.args.a} c.in-Err.is (rw (c.number_of.ensures, c.words_of.ensures.words) at (wrote-more (wrote-more c.write_field-on.ensures.0 c.write-after.ensures) c.write.ensures)), omega (arith, c.write_field-on.ensures.1, c.write-after.ensures.place, c.write.ensures.place, c.words_of.ensures.short))
