use Rattle.std.specs.Prelude.{Option, Some, None}
use Rattle.std.specs.Option.{is_some}
use Rattle.std.proofs.Common.{◌≡◌, ℕ, refl}
use Rattle.promises.specs.Laws.Bools.{or_yes}
use Rattle.taking.proofs.Facts.{moved, if-so, if-not}
use Rattle.words.specs.Reading.{table_of}
use Rattle.rules.specs.Sizes.{own_channel}
use Rattle.rules.specs.Moves.{sleep_on}
use Rattle.rules.specs.Calls.{is_there, waited_for}
use Rattle.waits.proofs.await_child.Goals.{then-meta_at-via-then-meta_at, then-meta_at-via-else-meta_at+then-is_none}
use Rattle.waits.proofs.await_child.Goals as goal

there : (o : Option ℕ) → is_there o ≡ is_some o
there None = refl
there (Some i) = refl

pub returns-then-meta_at : goal.returns-then-meta_at
unfolding waited_for
returns-then-meta_at c = elim c.then-meta_at.branch [
  | then-meta_at-via-then-meta_at w ↦ if-so _ (rw (← c.meta_at.ensures) (or_yes _ w.if-meta_at.true))
  | then-meta_at-via-else-meta_at+then-is_none w ↦ if-so _ (rw (← w.child_of.ensures.0, there w.child_of.result, w.if-is_none.ensures) refl)
]

pub returns : goal.returns
unfolding waited_for
returns c =
    if-not _ (table_of c.args.t.now) (rw (← c.child_of.ensures.0, there c.child_of.result, c.if-is_none.ensures, ← c.meta_at.ensures) c.if-meta_at.false)
    (moved (table_of c.args.t.now) (sleep_on c.args.hart c.args.caller (own_channel c.args.caller)) (rw c.own_channel.ensures at c.sleep_on.ensures))
