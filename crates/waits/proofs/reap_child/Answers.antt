use Rattle.taking.proofs.Facts.{given, if-so, if-not}
use Rattle.std.proofs.Common.{sym, ap}
use Rattle.std.specs.Prelude.{Ok}
use Rattle.words.specs.Reading.{table_of}
use Rattle.rules.specs.declared.ProcMeta.{ProcMeta}
use Rattle.rules.specs.declared.Grant.TheVariants.{Reaped}
use Rattle.rules.specs.Calls.{waited_for}
use Rattle.waits.proofs.reap_child.Goals as goal

pub returns-then-unwritable : goal.returns-then-unwritable
unfolding waited_for
returns-then-unwritable c = if-so _ (sym c.if-unwritable.ensures)

pub returns : goal.returns
unfolding waited_for
returns c = if-not _ (table_of c.args.t.now) (sym c.if-unwritable.ensures) (given (ap (λ (m : ProcMeta). Ok (Reaped m.pid m.xstate)) c.meta_at-m.ensures) c.free_proc.ensures)
