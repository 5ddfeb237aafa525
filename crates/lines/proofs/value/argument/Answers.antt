use Rattle.lines.proofs.ValueLaws.{is-there, room-left, too-few}
use Rattle.std.proofs.Common.{◌∙◌}
use Rattle.lines.proofs.value.argument.Goals as goal

pub returns-then-not-is_empty : goal.returns-then-not-is_empty
returns-then-not-is_empty c = c.worth.ensures ∙ is-there c.args.kind c.args.w.now c.if-not-is_empty.ensures

pub returns-in-Room : goal.returns-in-Room
returns-in-Room c = room-left c.args.kind c.args.w.now c.if-not-is_empty.ensures c.in-Room.is

pub returns-in_default : goal.returns-in_default
returns-in_default c = too-few c.args.kind c.args.w.now c.if-not-is_empty.ensures c.in_default.not-Room
