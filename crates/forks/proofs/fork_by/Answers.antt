use Rattle.taking.proofs.Facts.{exit-refused, exit-none, if-so, group-alone, group-in, take_no, take-is, taken-room}
use Rattle.std.proofs.Common.{refl, sym, subst}
use Rattle.words.specs.Reading.{table_of, InGroups}
use Rattle.rules.specs.Calls.{forked_by, forked_in}
use Rattle.forks.proofs.fork_by.Goals as goal

pub returns-in_err-g : goal.returns-in_err-g
unfolding forked_by
returns-in_err-g c =
    exit-none _ c.from_residual.ensures c.in_err-g.ensures.value (group-alone (table_of c.args.t.now) _ _ (rw (← c.kin_at.ensures.0) (sym c.in_err-g.ensures.ok_part)))

pub returns-in_err-child : goal.returns-in_err-child
unfolding forked_by
returns-in_err-child c =
    exit-refused c.from_residual-in_err-child.ensures (group-in (table_of c.args.t.now) _ _ {g = c.in_ok-g.g} (rw (← c.kin_at.ensures.0) (sym c.in_ok-g.ensures.ok_part))
    (take_no (table_of c.args.t.now) _ c.in_err-child.ensures.0 c.in_err-child.ensures.1))

pub returns-then-not-memory : goal.returns-then-not-memory
unfolding forked_by forked_in
returns-then-not-memory c =
    group-in (table_of c.args.t.now) _ _ {g = c.in_ok-g.g} (rw (← c.kin_at.ensures.0) (sym c.in_ok-g.ensures.ok_part))
    (take-is (table_of c.args.t.now) _ c.in_ok-child.ensures.0 c.in_ok-child.ensures.1 (if-so _ (rw c.if-not-memory.true refl)))

pub fork_in-requires : goal.fork_in-requires
fork_in-requires c = (
  c.requires.0,
  subst InGroups c.in_ok-g.ensures.ok_part c.kin_at.ensures.1,
  c.in_ok-child.ensures.2,
  taken-room (table_of c.args.t.now) c.requires.1 c.in_ok-child.ensures.2 c.in_ok-child.ensures.0 c.in_ok-child.ensures.1,
)

pub returns : goal.returns
unfolding forked_by
returns c =
    group-in (table_of c.args.t.now) _ _ {g = c.in_ok-g.g} (rw (← c.kin_at.ensures.0) (sym c.in_ok-g.ensures.ok_part))
    (take-is (table_of c.args.t.now) _ c.in_ok-child.ensures.0 c.in_ok-child.ensures.1 (rw c.if-not-memory.false c.fork_in.ensures))
