use Rattle.promises.specs.Laws.Bools.{or_yes}
use Rattle.promises.specs.ThreadExit.{exit-by-leader}
use Rattle.taking.proofs.Facts.{if-so}
use Rattle.words.specs.Reading.{table_of}
use Rattle.rules.specs.Calls.{exited_by}
use Rattle.ends.proofs.exit_by.Goals as goal

pub returns-then-kin_at : goal.returns-then-kin_at
unfolding exited_by
returns-then-kin_at c = if-so _ (rw (← c.kin_at.ensures.0) (or_yes _ c.if-kin_at.true))

pub returns : goal.returns
returns c =
    rw (exit-by-leader (table_of c.args.t.now) c.args.hart c.args.status c.args.caller (rw (← c.kin_at.ensures.0) c.if-kin_at.false)) c.thread_exit_by.ensures
