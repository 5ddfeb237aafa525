-- For each edit in must-fail/ the case that shows it wrong: one list, one claim.
use Rattle.std.specs.Prelude.{Ok, Err}
use Prim.Native.Nat.{ℕ, zero, suc, ◌+◌, ◌-◌}
use mathlib.Core.Path.{◌≡◌, refl}
use mathlib.Core.Bool.{true}
use mathlib.Core.List.{List, [], ◌∷◌, ◌++◌}
use Rattle.rules.specs.Types.{NotWanted, Writable, TableFull, HartIdle, Done, Made, Handed, Reaped, Blocked}
use Rattle.rules.specs.Sizes.{slot_count, first_device}
use Rattle.rules.specs.Model.{pid, slot}
use Rattle.rules.specs.Listing.{bytes}
use Rattle.rules.specs.Runs.{Call, spawn, system_return, fork, dispatch, yield, sleep, wakeup, kill, wait, join, thread_exit, exit}
use Rattle.rules.specs.Open.{everything}
use Rattle.rules.specs.Worked.{Case, up, ask, count_from, same_int, same_by, same_answer, right_looks, right, wrong}

-- these calls, n times over
unfoldable pub times : ℕ → List Call → List Call
times zero cs = []
times (suc n) cs = cs ++ times n cs

unfoldable pub slips : List Case
slips =
    -- pid_given_back: "Giving the pid back when the table is full."
    record {
      calls = times (suc slot_count) (spawn [] 0 ∷ []) ++ (dispatch 0 ∷ system_return 0 ∷ spawn [] 0 ∷ []);
      ends = Err TableFull ∷ Ok (Handed (slot 0)) ∷ Ok Done ∷ Ok (Made (pid (slot_count + 2))) ∷ [];
      queue = count_from 1 (slot_count - 1) ++ (0 ∷ []);
      looks = [];
    }
    -- join_by_slot: "Joining with a slot number where a pid belongs."
    ∷ record { calls = up (ask 0 0 ∷ join 0 (pid 2) NotWanted ∷ []); ends = Ok Blocked ∷ []; queue = 1 ∷ []; looks = [] }
    -- killed_before_scan: "Returning 10 to a killed parent that has a ZOMBIE child."
    ∷ record {
      calls = up (fork 0 true ∷ dispatch 1 ∷ exit 1 7 ∷ kill (pid 1) ∷ wait 0 Writable ∷ []);
      ends = Ok Done ∷ Ok (Reaped (pid 2) 7) ∷ [];
      queue = [];
      looks = [];
    }
    -- reaps_all_threads: "Reaping every ZOMBIE thread in one exit step; those above the first live thread stay."
    ∷ record {
      calls = up (fork 0 true ∷ wait 0 NotWanted ∷ dispatch 0 ∷ ask 0 0 ∷ ask 0 0 ∷ dispatch 1 ∷ dispatch 2 ∷ thread_exit 2 0 ∷ exit 0 0 ∷ []);
      ends = Ok Blocked ∷ [];
      queue = [];
      looks = record {
        room = 149;
        answer = Ok 149;
        part = bytes "pid: 1 state: SLEEPING name: initname\npid: 2 state: SLEEPING name: initname\n"
            ++ bytes "pid: 3 state: RUNNING name: initname\npid: 4 state: ZOMBIE name: initname\n";
      } ∷ [];
    }
    -- kill_unqueues: "Taking a killed RUNNABLE slot out of the queue."
    ∷ record { calls = spawn [] 0 ∷ kill (pid 1) ∷ []; ends = Ok Done ∷ []; queue = 0 ∷ []; looks = [] }
    -- hands_over_live_only: "Handing only live children to init: a ZOMBIE child left behind is never reaped."
    ∷ record {
      calls = up (ask 0 0 ∷ dispatch 1 ∷ fork 1 true ∷ dispatch 2 ∷ exit 2 5 ∷ thread_exit 1 0 ∷ wait 0 Writable ∷ []);
      ends = Ok (Reaped (pid 3) 5) ∷ [];
      queue = [];
      looks = [];
    }
    -- queue_loses_slot: "Publish" means RUNNABLE, queued, appended to the tail
    ∷ record { calls = spawn [] 0 ∷ spawn [] 0 ∷ []; ends = Ok (Made (pid 2)) ∷ []; queue = 0 ∷ 1 ∷ []; looks = [] }
    -- hart_left_busy: "Any caller that stops RUNNING leaves its hart idle."
    ∷ record { calls = spawn [] 0 ∷ dispatch 0 ∷ yield 0 ∷ yield 0 ∷ []; ends = Ok Done ∷ Err HartIdle ∷ []; queue = 0 ∷ []; looks = [] }
    -- wake_skips_last: "every SLEEPING slot on that channel is published, by rising slot"
    ∷ record {
      calls = times slot_count (spawn [] 0 ∷ dispatch 0 ∷ sleep 0 first_device ∷ []) ++ (wakeup first_device ∷ []);
      ends = Ok Done ∷ [];
      queue = count_from 0 slot_count;
      looks = [];
    }
    -- forgets_init_wake: "each slot whose parent is the caller .. gets init, and for each init's channel is woken"
    ∷ record {
      calls = up (ask 0 0 ∷ fork 0 true ∷ wait 0 NotWanted ∷ dispatch 0 ∷ fork 0 true ∷ thread_exit 0 0 ∷ []);
      ends = Ok Blocked ∷ Ok (Handed (slot 1)) ∷ Ok (Made (pid 4)) ∷ Ok Done ∷ [];
      queue = 2 ∷ 3 ∷ 0 ∷ [];
      looks = [];
    }
    ∷ []

pub slips-told : wrong 0 slips ≡ []
unfolding everything slips times count_from wrong right right_looks same_by same_answer same_int
slips-told = refl
