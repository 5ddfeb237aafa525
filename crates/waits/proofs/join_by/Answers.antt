use Rattle.taking.proofs.Facts.{exit-none, if-so, if-not, found_none, found_at, group-alone, group-in}
use Rattle.std.proofs.Common.{sym}
use Rattle.words.specs.Reading.{table_of}
use Rattle.rules.specs.Calls.{joined_by}
use Rattle.waits.proofs.join_by.Goals as goal

pub returns-in_err-g : goal.returns-in_err-g
unfolding joined_by
returns-in_err-g c =
    exit-none _ c.from_residual.ensures c.in_err-g.ensures.value (group-alone (table_of c.args.t.now) _ _ (rw (← c.kin_at.ensures.0) (sym c.in_err-g.ensures.ok_part)))

pub returns-then-eq : goal.returns-then-eq
unfolding joined_by
returns-then-eq c =
    group-in (table_of c.args.t.now) _ _ {g = c.in_ok-g.g} (rw (← c.kin_at.ensures.0) (sym c.in_ok-g.ensures.ok_part)) (if-so _ (rw (← c.meta_at.ensures) (sym c.if-eq.ensures)))

pub returns-in_err-i : goal.returns-in_err-i
unfolding joined_by
returns-in_err-i c =
    exit-none _ c.from_residual-in_err-i.ensures c.in_err-i.ensures.value (group-in (table_of c.args.t.now) _ _ {g = c.in_ok-g.g} (rw (← c.kin_at.ensures.0) (sym c.in_ok-g.ensures.ok_part))
    (if-not _ (table_of c.args.t.now) (rw (← c.meta_at.ensures) (sym c.if-eq.ensures)) (found_none _ (rw (← c.thread_named.ensures.0) (sym c.in_err-i.ensures.ok_part)))))

pub returns : goal.returns
unfolding joined_by
returns c =
    group-in (table_of c.args.t.now) _ _ {g = c.in_ok-g.g} (rw (← c.kin_at.ensures.0) (sym c.in_ok-g.ensures.ok_part))
    (if-not _ (table_of c.args.t.now) (rw (← c.meta_at.ensures) (sym c.if-eq.ensures)) (found_at _ (table_of c.args.t.now) _ {i = c.in_ok-i.i} (rw (← c.thread_named.ensures.0) (sym c.in_ok-i.ensures.ok_part)) c.join_to.ensures))
