use Rattle.std.proofs.Common.{rules}
use Rattle.wakes.proofs.WakeLaws.{room-changed}
use Rattle.wakes.proofs.slay.Goals as goal

pub make_runnable-requires : goal.make_runnable-requires
make_runnable-requires c = search (rules, room-changed)
