use Rattle.births.proofs.BirthLaws.{system-law}
use Rattle.words.specs.Reading.{table_of}
use Rattle.std.proofs.Common.{ap, ◌∙◌}
use Rattle.rules.specs.Moves.{change, publish}
use Rattle.rules.specs.Calls.{fill}
use Rattle.promises.specs.Order.Chains.{on_core}
use Rattle.births.proofs.spawn_in.Goals as goal

pub make_runnable-requires : goal.make_runnable-requires
unfolding fill change on_core
make_runnable-requires c =
    (c.requires.0, rw c.fill.ensures c.requires.1)

pub returns : goal.returns
returns c =
    system-law (table_of c.args.t.now) c.args.name.now c.args.entry c.args.i _ _ c.pids-n.ensures c.system_sp.ensures c.pack-w.ensures (c.make_runnable.ensures ∙ ap (on_core (publish _)) c.fill.ensures)
