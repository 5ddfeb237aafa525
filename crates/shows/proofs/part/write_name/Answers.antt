use Rattle.shows.specs.Shows.{name_text}
use Rattle.rules.specs.Sizes.{name_size}
use Rattle.rules.specs.Listing.{bytes}
use Rattle.buffers.proofs.TextLaws.{wrote-more}
use Rattle.std.proofs.Common.{rules}
use Rattle.shows.proofs.part.write_name.Goals as goal

pub write-on-requires : goal.write-on-requires
unfolding name_size
write-on-requires c = search rules

pub write_hex-requires : goal.write_hex-requires
unfolding name_size
write_hex-requires c = search rules

pub returns : goal.returns
unfolding name_text bytes name_size
returns c =
    (rw c.unpack-name.ensures at (wrote-more c.write-on.ensures c.write_hex.ensures.0), search rules)
