use Rattle.moves.proofs.MoveLaws.{publish-law}
use Rattle.std.proofs.Common.{◌∙◌}
use Rattle.words.specs.Reading.{table_of}
use Rattle.words.proofs.Changes.{change-then}
use Rattle.moves.proofs.make_runnable.Goals as goal

pub returns : goal.returns
returns c =
    let i = c.args.i in
    let t = table_of c.args.t.now in
    c.push.ensures ∙ publish-law t i (change-then _ _ i t c.set_state.ensures c.set_queued.ensures)
