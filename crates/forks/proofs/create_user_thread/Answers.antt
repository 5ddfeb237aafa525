use Rattle.taking.proofs.Facts.{exit-refused, hart-no, hart-is}
use Rattle.promises.proofs.Did.{did}
use Rattle.words.specs.Reading.{table_of}
use Rattle.rules.specs.Calls.{threaded}
use Rattle.rules.specs.Runs.{step}
use Rattle.forks.proofs.create_user_thread.Goals as goal

pub returns-in_err-caller : goal.returns-in_err-caller
unfolding step threaded
returns-in_err-caller c =
    did c.requires (exit-refused c.from_residual.ensures (hart-no (table_of c.args.t.now) _ _ c.in_err-caller.ensures.0))

pub returns : goal.returns
unfolding step threaded
returns c =
    did c.requires (hart-is (table_of c.args.t.now) _ _ c.in_ok-caller.ensures.0 c.thread_by.ensures)
