use Rattle.promises.specs.ListingBound.{state-short}
use Rattle.rules.specs.Listing.{bytes}
use Rattle.buffers.proofs.TextLaws.{wrote-more}
use Rattle.std.proofs.Common.{arith}
use Rattle.shows.proofs.part.write_state.Goals as goal

pub write-requires : goal.write-requires
write-requires c =
    omega (arith, state-short c.args.s)

pub returns : goal.returns
unfolding bytes
returns c =
    (wrote-more c.write-on.ensures c.write.ensures, omega (arith, c.write-on.ensures.place, c.write.ensures.place, state-short c.args.s))
