use Rattle.buffers.proofs.TextLaws.{wrote-more}
use Rattle.promises.specs.Laws.Digits.{digits-length}
use Rattle.pieces.specs.Pieces.{place_text}
use Rattle.rules.specs.Listing.{bytes}
use Rattle.std.proofs.Common.{arith}
use Rattle.pieces.proofs.write_place.Goals as goal

pub write-requires-in-Some : goal.write-requires-in-Some
write-requires-in-Some c = omega (arith, digits-length c.in-Some.s.0)

pub returns-in-None : goal.returns-in-None
unfolding place_text bytes
returns-in-None c = (rw c.in-None.is (wrote-more c.write-on.ensures c.write.ensures), omega arith)

pub returns-in-Some : goal.returns-in-Some
unfolding place_text
returns-in-Some c = (rw c.in-Some.is (wrote-more c.write-on.ensures c.write-in-Some.ensures), omega (arith, digits-length c.in-Some.s.0))
