use Rattle.rules.specs.Sizes.{slot_count, hart_count, name_size}
use Rattle.session.proofs.StandLaws.{stays, leaves}
use Rattle.std.proofs.Common.{length, arith}
use Rattle.session.proofs.make_room.Goals as goal

pub overflow_sub-out : goal.overflow_sub-out
unfolding slot_count hart_count name_size
overflow_sub-out g c = omega (arith, c.requires.0)

pub returns-then-at-out : goal.returns-then-at-out
unfolding slot_count hart_count name_size
returns-then-at-out g c =
    stays c.args.at (length c.args.out.now) (omega (arith, c.requires.0, c.if-at-out.true))

pub returns : goal.returns
unfolding slot_count hart_count name_size
returns g c =
    leaves c.args.at (length c.args.out.now) c.requires.0 (omega (arith, c.requires.0, c.if-at-out.false))
