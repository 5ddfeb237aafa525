-- A slot comes into the queue only from ALLOCATED, RUNNING or SLEEPING: in every move, and every call is made of moves (Calls/Steps.antt).
use Rattle.std.specs.Prelude.{◌≡◌, true}
use Rattle.promises.specs.Types.{ALLOCATED, RUNNABLE, RUNNING, SLEEPING, Process}
use Rattle.rules.specs.Model.{is}

-- a slot that waits after a move waited before it, or was in one of these states
pub data From (p : Process) : Type 0 where
  waited : is RUNNABLE p ≡ true → From p
  from_allocated : is ALLOCATED p ≡ true → From p
  from_running : is RUNNING p ≡ true → From p
  from_sleeping : is SLEEPING p ≡ true → From p
