use Rattle.moves.proofs.MoveLaws.{stop-law}
use Rattle.words.specs.Reading.{table_of}
use Rattle.rules.specs.Model.{to_sleeping}
use Rattle.rules.specs.Moves.{sleep_on}
use Rattle.words.proofs.Changes.{change-then}
use Rattle.moves.proofs.sleep_on.Goals as goal

pub returns : goal.returns
unfolding sleep_on
returns c =
    let a = c.args in
    let asleep = change-then _ _ a.caller _ c.set_channel.ensures c.set_state.ensures in
    stop-law (table_of a.t.now) a.hart a.caller c.idle.ensures (to_sleeping a.channel) asleep
