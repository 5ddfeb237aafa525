-- The shared types of src/lib.rt, under one roof.
use Rattle.std.specs.Prelude.{Result}
pub use Rattle.rules.specs.declared.Pid.{Pid}
pub use Rattle.rules.specs.declared.Slot.{Slot}
pub use Rattle.rules.specs.declared.ProcState.{ProcState}
pub use Rattle.rules.specs.declared.ProcState.TheVariants.{UNUSED, ALLOCATED, RUNNABLE, RUNNING, SLEEPING, ZOMBIE}
pub use Rattle.rules.specs.declared.ProcMeta.{ProcMeta}
pub use Rattle.rules.specs.declared.Kin.{Kin}
pub use Rattle.rules.specs.declared.Start.{Start}
pub use Rattle.rules.specs.declared.Process.{Process}
pub use Rattle.rules.specs.declared.Group.{Group}
pub use Rattle.rules.specs.declared.Wish.{Wish}
pub use Rattle.rules.specs.declared.Wish.TheVariants.{NotWanted, Writable, Unwritable}
pub use Rattle.rules.specs.declared.ThreadAsk.{ThreadAsk}
pub use Rattle.rules.specs.declared.Mapped.{Mapped}
pub use Rattle.rules.specs.declared.Refusal.{Refusal}
pub use Rattle.rules.specs.declared.Refusal.TheVariants.{NoSuchHart, HartIdle, HartBusy, QueueEmpty, TableFull, PidsSpent, NoGroup, BadAddress, Unmapped, NoneSuch, StatusUnwritable, InitOutOfTurn, WrongWayOut, NotADevice, NameTooLong, NoRoom, SizeOutOfLimits, NoMemory}
pub use Rattle.rules.specs.declared.Grant.{Grant}
pub use Rattle.rules.specs.declared.Grant.TheVariants.{Done, Made, Handed, Reaped, Joined, Blocked}

abbrev pub Answer : Type 0
Answer = Result Grant Refusal
