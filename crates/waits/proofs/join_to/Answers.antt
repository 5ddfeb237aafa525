use Rattle.taking.proofs.Facts.{given, moved, if-so, if-not}
use Rattle.std.specs.Prelude.{Ok}
use Rattle.std.proofs.Common.{sym, ap, ◌∙◌, ℤ, w32, to_z-of_z}
use Rattle.words.specs.Reading.{table_of}
use Rattle.rules.specs.declared.Grant.TheVariants.{Joined}
use Rattle.rules.specs.Sizes.{own_channel}
use Rattle.rules.specs.Moves.{sleep_on}
use Rattle.rules.specs.Calls.{joined_to}
use Rattle.waits.proofs.join_to.Goals as goal

pub returns-then-unwritable : goal.returns-then-unwritable
unfolding joined_to
returns-then-unwritable c = rw (← c.if-is.ensures) (if-so _ (sym c.if-unwritable.ensures))

pub returns-then-is : goal.returns-then-is
unfolding joined_to
returns-then-is c =
    rw (← c.if-is.ensures, ← c.meta_at-m.ensures) (if-not _ (table_of c.args.t.now) (sym c.if-unwritable.ensures)
    (given (ap (λ (v : ℤ). Ok (Joined v)) (to_z-of_z {w = w32} (record { sfits = c.signed.type_inv }) ∙ c.signed.ensures)) c.free_proc.ensures))

pub returns : goal.returns
unfolding joined_to
returns c =
    rw (← c.if-is.ensures) (moved (table_of c.args.t.now) (sleep_on c.args.hart c.args.caller (own_channel c.args.i)) (rw c.own_channel.ensures at c.sleep_on.ensures))
