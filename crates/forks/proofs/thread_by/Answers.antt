use Rattle.std.proofs.lemmas.Bool.Decides.{nat_tests}
use Rattle.taking.proofs.Facts.{exit-refused, exit-none, if-so, if-not, group-alone, group-in, take_no, take-is, taken-room, taken-count}
use Rattle.std.proofs.Common.{◌≡◌, ℕ, ◌+◌, ◌≤◌, false, arith, sym, subst}
use Rattle.rules.specs.declared.ThreadAsk.{ThreadAsk}
use Rattle.rules.specs.Sizes.{address_top, page_size}
use Rattle.words.specs.Reading.{table_of, InGroups}
use Rattle.rules.specs.Calls.{wrong_ask, threaded_by}
use Rattle.forks.proofs.thread_by.Goals as goal

-- what is not refused ends within 64 bits
ask-fits : (a : ThreadAsk) (size : ℕ) → wrong_ask a size ≡ false → a.stack + page_size ≤ address_top
unfolding wrong_ask
ask-fits a size e = grind (arith, nat_tests)

pub returns-in_err-g : goal.returns-in_err-g
unfolding threaded_by
returns-in_err-g c =
    exit-none _ c.from_residual.ensures c.in_err-g.ensures.value (group-alone (table_of c.args.t.now) _ _ (rw (← c.kin_at.ensures.0) (sym c.in_err-g.ensures.ok_part)))

pub group_at-requires : goal.group_at-requires
group_at-requires c = subst InGroups c.in_ok-g.ensures.ok_part c.kin_at.ensures.1

pub returns-then-wrong_ask : goal.returns-then-wrong_ask
unfolding threaded_by
returns-then-wrong_ask c =
    group-in (table_of c.args.t.now) _ _ {g = c.in_ok-g.g} (rw (← c.kin_at.ensures.0) (sym c.in_ok-g.ensures.ok_part))
    (if-so _ (rw (← c.group_at.ensures) (sym c.if-wrong_ask.ensures)))

pub returns-then-unmapped : goal.returns-then-unmapped
unfolding threaded_by
returns-then-unmapped c =
    group-in (table_of c.args.t.now) _ _ {g = c.in_ok-g.g} (rw (← c.kin_at.ensures.0) (sym c.in_ok-g.ensures.ok_part))
    (if-not _ (table_of c.args.t.now) (rw (← c.group_at.ensures) (sym c.if-wrong_ask.ensures)) (if-so _ (sym c.if-unmapped.ensures)))

pub returns-in_err-i : goal.returns-in_err-i
unfolding threaded_by
returns-in_err-i c =
    exit-refused c.from_residual-in_err-i.ensures (group-in (table_of c.args.t.now) _ _ {g = c.in_ok-g.g} (rw (← c.kin_at.ensures.0) (sym c.in_ok-g.ensures.ok_part))
    (if-not _ (table_of c.args.t.now) (rw (← c.group_at.ensures) (sym c.if-wrong_ask.ensures)) (if-not _ (table_of c.args.t.now) (sym c.if-unmapped.ensures)
    (take_no (table_of c.args.t.now) _ c.in_err-i.ensures.0 c.in_err-i.ensures.1))))

pub thread_in-requires : goal.thread_in-requires
thread_in-requires c = (
  c.requires.0,
  subst InGroups c.in_ok-g.ensures.ok_part c.kin_at.ensures.1,
  c.in_ok-i.ensures.2,
  taken-room (table_of c.args.t.now) c.requires.1 c.in_ok-i.ensures.2 c.in_ok-i.ensures.0 c.in_ok-i.ensures.1,
  taken-count (table_of c.args.t.now) c.requires.1 c.in_ok-i.ensures.2 c.in_ok-i.ensures.0 c.in_ok-i.ensures.1 _,
  ask-fits c.args.ask c.group_at.result.size (sym c.if-wrong_ask.ensures),
)

pub returns : goal.returns
unfolding threaded_by
returns c =
    group-in (table_of c.args.t.now) _ _ {g = c.in_ok-g.g} (rw (← c.kin_at.ensures.0) (sym c.in_ok-g.ensures.ok_part))
    (if-not _ (table_of c.args.t.now) (rw (← c.group_at.ensures) (sym c.if-wrong_ask.ensures)) (if-not _ (table_of c.args.t.now) (sym c.if-unmapped.ensures)
    (take-is (table_of c.args.t.now) _ c.in_ok-i.ensures.0 c.in_ok-i.ensures.1 c.thread_in.ensures)))
