use Rattle.std.proofs.Common.{sym}
use Rattle.taking.proofs.Facts.{if-so, if-not}
use Rattle.words.specs.Reading.{table_of}
use Rattle.rules.specs.Calls.{thread_exited_by}
use Rattle.ends.proofs.thread_exit_by.Goals as goal

pub returns-then-stays : goal.returns-then-stays
unfolding thread_exited_by
returns-then-stays c = if-so _ (sym c.if-stays.ensures)

pub returns-then-kin_at : goal.returns-then-kin_at
unfolding thread_exited_by
returns-then-kin_at c =
    if-not _ (table_of c.args.t.now) (sym c.if-stays.ensures) (rw (← c.kin_at.ensures.0, c.if-kin_at.true) c.exit_thread.ensures)

pub returns : goal.returns
unfolding thread_exited_by
returns c =
    if-not _ (table_of c.args.t.now) (sym c.if-stays.ensures) (rw (← c.kin_at.ensures.0, c.if-kin_at.false) c.exit_leader.ensures)
