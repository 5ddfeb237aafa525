use Rattle.ends.proofs.EndLaws.{reparent-queued}
use Rattle.promises.specs.Order.Chains.{on_core}
use Rattle.taking.proofs.Facts.{moved}
use Rattle.std.proofs.Common.{refl}
use Rattle.words.specs.Reading.{table_of}
use Rattle.rules.specs.Moves.{zombie_on}
use Rattle.rules.specs.Calls.{exited_past, departing}
use Rattle.ends.proofs.depart.Goals as goal

pub wake_of-requires : goal.wake_of-requires
wake_of-requires c =
    (c.kin_at.ensures.2, reparent-queued (table_of c.args.t.now) c.args.caller c.reparent.ensures c.requires.2)

pub returns : goal.returns
unfolding exited_past departing on_core
returns c =
    moved (table_of c.args.t.now) (λ _. zombie_on c.args.hart c.args.caller c.args.status (departing (table_of c.args.t.now) c.args.caller))
    (rw (c.zombie_on.ensures, c.wake_of.ensures, c.kin_at.ensures.0, c.reparent.ensures) refl)
