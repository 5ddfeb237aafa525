use Rattle.promises.specs.Order.Chains.{on_core}
use Rattle.taking.proofs.Facts.{moved}
use Rattle.std.proofs.Common.{refl}
use Rattle.words.specs.Reading.{table_of}
use Rattle.rules.specs.Sizes.{own_channel}
use Rattle.rules.specs.Model.{Core}
use Rattle.rules.specs.Moves.{sleep_on, slay}
use Rattle.rules.specs.Calls.{exited_past}
use Rattle.ends.proofs.await_thread.Goals as goal

pub returns : goal.returns
unfolding exited_past on_core
returns c =
    moved (table_of c.args.t.now) (λ (o : Core). sleep_on c.args.hart c.args.caller (own_channel c.args.i) (slay c.args.i o))
    (rw (c.sleep_on.ensures, c.own_channel.ensures, c.slay.ensures) refl)
