use Rattle.moves.proofs.MoveLaws.{hand-law}
use Rattle.std.proofs.Common.{◌∙◌}
use Rattle.words.specs.Reading.{table_of}
use Rattle.words.proofs.Changes.{change-then}
use Rattle.moves.proofs.run_on.Goals as goal

pub returns : goal.returns
returns c =
    let i = c.args.i in
    let t = table_of c.args.t.now in
    let running = change-then _ _ i t (change-then _ _ i t c.set_state.ensures c.set_channel.ensures) c.set_queued.ensures in
    c.set_hart.ensures ∙ hand-law t i c.args.hart running
