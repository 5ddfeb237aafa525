use Rattle.taking.proofs.Facts.{exit-refused, hart-no, hart-is}
use Rattle.promises.proofs.Did.{did}
use Rattle.words.specs.Reading.{table_of}
use Rattle.rules.specs.Calls.{waited}
use Rattle.rules.specs.Runs.{step}
use Rattle.waits.proofs.wait.Goals as goal

pub returns-in_err-caller : goal.returns-in_err-caller
unfolding step waited
returns-in_err-caller c =
    did c.requires (exit-refused c.from_residual.ensures (hart-no (table_of c.args.t.now) _ _ c.in_err-caller.ensures.0))

pub returns-in-Some : goal.returns-in-Some
unfolding step waited
returns-in-Some c =
    did c.requires (hart-is (table_of c.args.t.now) _ _ c.in_ok-caller.ensures.0 (rw (← c.in-Some.ensures.0) c.reap_child.ensures))

pub returns-in-None : goal.returns-in-None
unfolding step waited
returns-in-None c =
    did c.requires (hart-is (table_of c.args.t.now) _ _ c.in_ok-caller.ensures.0 (rw (← c.in-None.ensures.0) c.await_child.ensures))
