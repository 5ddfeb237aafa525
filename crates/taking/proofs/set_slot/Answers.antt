use Rattle.rules.specs.Calls.{fill}
use Rattle.words.proofs.Changes.{change-then}
use Rattle.words.specs.Reading.{table_of}
use Rattle.taking.proofs.set_slot.Goals as goal

pub returns : goal.returns
unfolding fill
returns c =
    let i = c.args.i in
    let t = table_of c.args.t.now in
    change-then _ _ i t (change-then _ _ i t c.set_meta.ensures c.set_kin.ensures) c.set_start.ensures
