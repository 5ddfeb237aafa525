use Rattle.moves.proofs.MoveLaws.{stop-law}
use Rattle.words.specs.Reading.{table_of}
use Rattle.rules.specs.Model.{to_zombie}
use Rattle.rules.specs.Moves.{zombie_on}
use Rattle.words.proofs.Changes.{change-then}
use Rattle.moves.proofs.zombie_on.Goals as goal

pub returns : goal.returns
unfolding zombie_on
returns c =
    let a = c.args in
    let dead = change-then _ _ a.caller _ c.set_xstate.ensures c.set_state.ensures in
    stop-law (table_of a.t.now) a.hart a.caller c.idle.ensures (to_zombie a.status) dead
