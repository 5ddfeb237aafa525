use Rattle.std.specs.Prelude.{None}
use Rattle.buffers.proofs.TextLaws.{wrote_as, wrote-more}
use Rattle.words.specs.Reading.{table_of}
use Rattle.pieces.specs.Pieces.{field}
use Rattle.shows.specs.Shows.{group_text}
use Rattle.rules.specs.Listing.{bytes}
use Rattle.std.proofs.Common.{rules}
use Rattle.shows.proofs.part.write_group.Goals as goal

pub group_at-requires : goal.group_at-requires
group_at-requires c =
    rw c.in-Some.is at c.requires.0

pub returns-in-None : goal.returns-in-None
unfolding group_text bytes
returns-in-None c =
    (wrote_as (group_text (table_of c.args.t.now).books) None {x = c.args.g} (cc) c.write.ensures, search rules)

pub returns-in-Some : goal.returns-in-Some
unfolding group_text field bytes
returns-in-Some c =
    (wrote_as (group_text (table_of c.args.t.now).books) _ {x = c.args.g} c.in-Some.is (rw c.group_at.ensures at (wrote-more c.write_field-on.ensures.0 c.write_field.ensures.0)), search rules)
