use Rattle.std.specs.Prelude.{None}
use Rattle.shows.proofs.ShowLaws.{listed_start, listed_more, listed-all}
use Rattle.pieces.specs.Pieces.{place_text}
use Rattle.shows.specs.Shows.{harts_text}
use Rattle.words.proofs.Facts.{harts-count}
use Rattle.words.specs.Reading.{table_of}
use Rattle.rules.specs.Listing.{bytes}
use Rattle.rules.specs.Sizes.{hart_count}
use Rattle.std.proofs.Common.{rules, arith}
use Rattle.shows.proofs.head.write_harts.Goals as goal

pub hart_at-requires : goal.hart_at-requires
unfolding hart_count
hart_at-requires c = omega arith

pub write_place-on-requires : goal.write_place-on-requires
unfolding hart_count
write_place-on-requires c = search rules

pub loop-hart-init : goal.loop-hart-init
unfolding hart_count
loop-hart-init c =
    listed_start place_text (bytes " harts ") (table_of c.args.t.now).core.harts _ _ (omega (arith, harts-count c.args.t.now))

pub hart_at-requires-in-loop-hart : goal.hart_at-requires-in-loop-hart
unfolding hart_count
hart_at-requires-in-loop-hart c = omega arith

pub write_place-on-requires-in-loop-hart : goal.write_place-on-requires-in-loop-hart
unfolding hart_count
write_place-on-requires-in-loop-hart c = search rules

pub loop-hart-smaller : goal.loop-hart-smaller
unfolding hart_count
loop-hart-smaller c = omega arith

pub loop-hart-preserved : goal.loop-hart-preserved
unfolding hart_count bytes
loop-hart-preserved c =
    listed_more place_text (bytes " harts ") (table_of c.args.t.now).core.harts None c.loop-hart.invariant (omega (arith, harts-count c.args.t.now)) (rw c.hart_at-in-loop-hart.ensures.0 at c.write_place-on-in-loop-hart.ensures.0) (omega arith)

pub returns : goal.returns
unfolding harts_text hart_count bytes
returns c =
    (listed-all place_text (bytes " harts ") (table_of c.args.t.now).core.harts None c.loop-hart.invariant (omega (arith, harts-count c.args.t.now)) (rw c.hart_at.ensures.0 at c.write_place-on.ensures.0), omega (arith, harts-count c.args.t.now))
