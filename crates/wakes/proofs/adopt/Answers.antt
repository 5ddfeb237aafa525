use Rattle.std.proofs.Common.{rules}
use Rattle.wakes.proofs.WakeLaws.{adopt-queued}
use Rattle.wakes.proofs.adopt.Goals as goal

pub wake_of-requires : goal.wake_of-requires
wake_of-requires c = search (rules, adopt-queued)
