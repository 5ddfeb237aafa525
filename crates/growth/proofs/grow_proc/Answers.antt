use Rattle.growth.proofs.GrowLaws.{grow-out, grow-unfed, grow-is}
use Rattle.std.proofs.Common.{to_z-of_z}
use Rattle.growth.proofs.grow_proc.Goals as goal

pub returns-in_err-size : goal.returns-in_err-size
returns-in_err-size c =
    grow-out c.requires c.in_ok-caller.ensures.0 c.kin_at.ensures.0 c.in_ok-g.ensures.ok_part c.group_at.ensures (to_z-of_z c.ranges.count) c.new_size.ensures c.in_err-size.ensures.value c.from_residual-in_err-size.ensures

pub returns-then-not-memory : goal.returns-then-not-memory
returns-then-not-memory c =
    grow-unfed c.requires c.in_ok-caller.ensures.0 c.kin_at.ensures.0 c.in_ok-g.ensures.ok_part c.group_at.ensures (to_z-of_z c.ranges.count) c.new_size.ensures c.in_ok-size.ensures.ok_part c.if-count-gt0.true c.if-not-memory.true

pub returns : goal.returns
returns c =
    grow-is c.requires c.in_ok-caller.ensures.0 c.kin_at.ensures.0 c.in_ok-g.ensures.ok_part c.group_at.ensures (to_z-of_z c.ranges.count) c.new_size.ensures c.in_ok-size.ensures.ok_part c.else-count-gt0.either c.set_size.ensures
