use Rattle.ends.proofs.EndLaws.{reparent-queued}
use Rattle.promises.specs.Order.Chains.{on_core}
use Rattle.taking.proofs.Facts.{moved}
use Rattle.std.proofs.Common.{refl}
use Rattle.words.specs.Reading.{table_of}
use Rattle.rules.specs.Sizes.{own_channel}
use Rattle.rules.specs.Model.{Core}
use Rattle.rules.specs.Moves.{zombie_on, wake, reparent}
use Rattle.rules.specs.Calls.{thread_ended}
use Rattle.ends.proofs.exit_thread.Goals as goal

pub wake_up-requires : goal.wake_up-requires
wake_up-requires c =
    reparent-queued (table_of c.args.t.now) c.args.caller c.reparent.ensures c.requires.2

pub returns : goal.returns
unfolding thread_ended on_core
returns c =
    moved (table_of c.args.t.now) (λ (o : Core). zombie_on c.args.hart c.args.caller c.args.status (wake (own_channel c.args.caller) (reparent (table_of c.args.t.now).books.init c.args.caller o)))
    (rw (c.zombie_on.ensures, c.wake_up.ensures, c.own_channel.ensures, c.reparent.ensures) refl)
