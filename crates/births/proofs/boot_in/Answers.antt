use Rattle.births.proofs.BirthLaws.{init-law}
use Rattle.words.specs.Reading.{table_of}
use Rattle.std.proofs.Common.{ap, ◌∙◌}
use Rattle.rules.specs.Moves.{set_group}
use Rattle.rules.specs.Listing.{bytes}
use Rattle.rules.specs.Calls.{init_name}
use Rattle.words.specs.Effects.{on_books, with_init}
use Rattle.births.proofs.boot_in.Goals as goal

pub returns : goal.returns
unfolding init_name bytes
returns c =
    init-law (table_of c.args.t.now) c.args.i _ _ c.pids-n.ensures c.new_group-g.ensures.0 c.user_sp.ensures c.pack-name.ensures
    (c.set_init.ensures ∙ ap (on_books (with_init _)) (c.set_group.ensures ∙ ap (on_books (set_group _ _)) c.fill.ensures))
