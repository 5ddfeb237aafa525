-- Runs for sentences of document 01 that its starred runs leave out: one list, one claim; and its numbers.
use Rattle.std.specs.Prelude.{ℕ, ◌-◌, ◌≡◌, refl, true, false, List, [], ◌∷◌, map, replicate, pos, negsuc, Ok, Err}
use Rattle.promises.specs.Types.{Mapped, NotWanted, Writable, Unwritable, NoSuchHart, HartIdle, HartBusy, QueueEmpty, TableFull, PidsSpent, NoGroup, BadAddress, Unmapped, NoneSuch, StatusUnwritable, InitOutOfTurn, WrongWayOut, NotADevice, NameTooLong, NoRoom, SizeOutOfLimits, NoMemory, Answer, Done, Made, Handed, Reaped, Joined, Blocked}
use Rattle.rules.specs.Sizes.{slot_count, group_count, hart_count, first_device, name_size, pid_top, page_size, trampoline, trapframe, kernel_stack, user_sp, system_sp, thread_trapframe, size_top, listing_top}
use Rattle.rules.specs.Answers.{number_of}
use Rattle.rules.specs.Model.{pid, slot}
use Rattle.rules.specs.Listing.{bytes}
use Rattle.rules.specs.Runs.{Call, boot, start, spawn, system_return, fork, thread, dispatch, yield, sleep, wakeup, kill, wait, join, thread_exit, exit, grow}
use Rattle.rules.specs.Open.{everything}
use Rattle.rules.specs.Worked.{Case, up, ask, mapped, count_from, same_int, same_by, same_answer, right_looks, right, wrong}

abbrev thread_on : ℕ → ℕ → ℕ → ℕ → Mapped → Call
thread_on h stack entry ret m = thread h (record { entry = entry; arg = 9; stack = stack; ret = ret }) m

abbrev plain : List Call → List Answer → List ℕ → Case
plain cs answers q = record { calls = cs; ends = answers; queue = q; looks = [] }

-- a system thread takes slot 0 and runs on hart 0, init takes slot 1 and runs on hart 1, and then these
abbrev up_behind : List Call → List Call
up_behind cs = spawn [] 0 ∷ boot ∷ start ∷ dispatch 0 ∷ dispatch 1 ∷ cs

unfoldable pub more_runs : List Case
more_runs =
    -- killed: no ZOMBIE child, so 10; and the mark outlives a dispatch
    plain (up (fork 0 true ∷ kill (pid 1) ∷ wait 0 Writable ∷ yield 0 ∷ dispatch 1 ∷ dispatch 0 ∷ wait 0 Writable ∷ [])) (Ok Done ∷ Err NoneSuch ∷ Ok Done ∷ Ok (Handed (slot 1)) ∷ Ok (Handed (slot 0)) ∷ Err NoneSuch ∷ []) []
    -- kill publishes a sleeper
    ∷ plain (spawn [] 0 ∷ dispatch 0 ∷ sleep 0 first_device ∷ kill (pid 1) ∷ []) (Ok Done ∷ (Ok Done) ∷ []) (0 ∷ [])
    -- the whole 64-bit status
    ∷ plain (up (fork 0 true ∷ dispatch 1 ∷ exit 1 4294967303 ∷ wait 0 Unwritable ∷ wait 0 NotWanted ∷ [])) (Err StatusUnwritable ∷ Ok (Reaped (pid 2) 4294967303) ∷ []) []
    ∷ plain (up (ask 0 0 ∷ dispatch 1 ∷ thread_exit 1 3 ∷ join 0 (pid 2) Unwritable ∷ join 0 (pid 2) NotWanted ∷ [])) (Err StatusUnwritable ∷ Ok (Joined (pos 3)) ∷ []) []
    -- memory
    ∷ plain (up (fork 0 false ∷ fork 0 true ∷ grow 0 (pos 1) false ∷ grow 0 (pos 0) false ∷ grow 0 (negsuc 0) false ∷ [])) (Err NoMemory ∷ Ok (Made (pid 3)) ∷ Err NoMemory ∷ Ok Done ∷ (Ok Done) ∷ []) (1 ∷ [])
    -- a grown size counts, for the caller and for a child; a shrunk one too
    ∷ plain (up (ask 4096 0 ∷ grow 0 (pos 4096) true ∷ ask 4096 0 ∷ fork 0 true ∷ dispatch 1 ∷ dispatch 2 ∷ thread_on 2 4096 0 1 mapped ∷ grow 0 (negsuc 4095) true ∷ ask 4096 0 ∷ []))
    (Err BadAddress ∷ Ok Done ∷ Ok (Made (pid 2)) ∷ Ok (Made (pid 3)) ∷ Ok (Handed (slot 1)) ∷ Ok (Handed (slot 2)) ∷ Ok (Made (pid 4)) ∷ Ok Done ∷ Err BadAddress ∷ []) (3 ∷ [])
    -- alignment, return, order of 8 and 9, each host answer
    ∷ plain (up (grow 0 (pos 4096) true ∷ thread_on 0 1 0 1 mapped ∷ thread_on 0 0 0 8192 mapped ∷ thread_on 0 1 0 1 (record { entry = false; ret = true; stack = true; top = true })
    ∷ thread_on 0 0 0 1 (record { entry = false; ret = true; stack = true; top = true }) ∷ thread_on 0 0 0 1 (record { entry = true; ret = false; stack = true; top = true })
    ∷ thread_on 0 0 0 1 (record { entry = true; ret = true; stack = false; top = true }) ∷ thread_on 0 0 0 1 (record { entry = true; ret = true; stack = true; top = false }) ∷ thread_on 0 4096 8191 8191 mapped ∷ []))
    (Err BadAddress ∷ Err BadAddress ∷ Err BadAddress ∷ Err Unmapped ∷ Err Unmapped ∷ Err Unmapped ∷ Err Unmapped ∷ Ok (Made (pid 2)) ∷ []) (1 ∷ [])
    -- the queue is empty
    ∷ plain (dispatch 0 ∷ []) (Err QueueEmpty ∷ []) []
    -- of two ZOMBIE children the lower, though it died later
    ∷ plain (up (fork 0 true ∷ fork 0 true ∷ dispatch 1 ∷ dispatch 2 ∷ exit 2 5 ∷ exit 1 6 ∷ wait 0 NotWanted ∷ wait 0 NotWanted ∷ [])) (Ok (Reaped (pid 2) 6) ∷ Ok (Reaped (pid 3) 5) ∷ []) []
    -- join: never the caller, and a killed one waits all the same
    ∷ plain (up (ask 0 0 ∷ dispatch 1 ∷ join 1 (pid 2) NotWanted ∷ kill (pid 1) ∷ join 0 (pid 2) NotWanted ∷ [])) (Err NoneSuch ∷ Ok Done ∷ (Ok Blocked) ∷ []) []
    -- exit marks a RUNNING thread killed: with a live child it waits no more
    ∷ plain (up (fork 0 true ∷ dispatch 1 ∷ thread_on 1 0 0 1 mapped ∷ dispatch 2 ∷ fork 2 true ∷ exit 1 0 ∷ wait 2 NotWanted ∷ [])) (Ok (Made (pid 4)) ∷ Ok Blocked ∷ Err NoneSuch ∷ []) (3 ∷ [])
    -- names
    ∷ record {
      calls = spawn (replicate 17 65) 0 ∷ spawn (replicate 16 65) 0 ∷ spawn (31 ∷ 32 ∷ 126 ∷ 127 ∷ 0 ∷ 65 ∷ []) 0 ∷ [];
      ends = Err NameTooLong ∷ Ok (Made (pid 1)) ∷ Ok (Made (pid 2)) ∷ [];
      queue = 0 ∷ 1 ∷ [];
      looks = record { room = 100; answer = Ok 80; part = bytes "pid: 1 state: RUNNABLE name: AAAAAAAAAAAAAAAA\npid: 2 state: RUNNABLE name: ? ~?\n" } ∷ [];
    }
    ∷ record { calls = boot ∷ []; ends = Ok (Made (pid 1)) ∷ []; queue = []; looks = record { room = 99; answer = Ok 39; part = bytes "pid: 1 state: ALLOCATED name: initname\n" } ∷ [] }
    -- the hart that is named; 8 is none; 3 before 4
    ∷ plain (spawn [] 0 ∷ dispatch 8 ∷ dispatch 7 ∷ dispatch 7 ∷ yield 8 ∷ yield 0 ∷ yield 7 ∷ []) (Err NoSuchHart ∷ Ok (Handed (slot 0)) ∷ Err HartBusy ∷ Err NoSuchHart ∷ Err HartIdle ∷ Ok Done ∷ []) (0 ∷ [])
    -- a thread's thread belongs to the leader: nobody is handed over when the first one ends
    ∷ plain (up (ask 0 0 ∷ dispatch 1 ∷ thread_on 1 0 0 1 mapped ∷ fork 0 true ∷ wait 0 NotWanted ∷ thread_exit 1 0 ∷ [])) (Ok Blocked ∷ (Ok Done) ∷ []) (2 ∷ 3 ∷ [])
    -- exit wakes a sleeping thread; join names a thread only; exit by a thread
    ∷ plain (up (fork 0 true ∷ dispatch 1 ∷ thread_on 1 0 0 1 mapped ∷ dispatch 2 ∷ sleep 2 first_device ∷ join 1 (pid 2) NotWanted ∷ exit 1 0 ∷ dispatch 2 ∷ exit 2 0 ∷ thread_exit 2 0 ∷ []))
    (Err NoneSuch ∷ Ok Blocked ∷ Ok (Handed (slot 2)) ∷ Err WrongWayOut ∷ Ok Done ∷ []) (1 ∷ [])
    -- the ways out that are refused; groupless callers
    ∷ plain (up (spawn [] 0 ∷ dispatch 1 ∷ exit 1 0 ∷ thread_exit 1 0 ∷ fork 1 true ∷ grow 1 (pos 0) true ∷ join 1 (pid 1) NotWanted ∷ thread_on 1 0 0 1 mapped ∷ wait 1 NotWanted ∷ system_return 0 ∷ exit 0 0 ∷ thread_exit 0 0 ∷ system_return 1 ∷ []))
    (Err WrongWayOut ∷ Err WrongWayOut ∷ Err NoGroup ∷ Err NoGroup ∷ Err NoGroup ∷ Err NoGroup ∷ Err NoneSuch ∷ Err WrongWayOut ∷ Err WrongWayOut ∷ Err WrongWayOut ∷ Ok Done ∷ []) []
    -- channels below the devices; boot and start out of turn
    ∷ plain (start ∷ up (boot ∷ start ∷ sleep 0 (first_device - 1) ∷ wakeup (first_device - 1) ∷ sleep 0 0 ∷ [])) (Err InitOutOfTurn ∷ Ok (Made (pid 1)) ∷ Ok Done ∷ Ok (Handed (slot 0)) ∷ Err InitOutOfTurn ∷ Err InitOutOfTurn ∷ Err NotADevice ∷ Err NotADevice ∷ Err NotADevice ∷ []) []
    -- a join that blocks is woken by the thread's end, and asks again
    ∷ plain (up (ask 0 0 ∷ dispatch 1 ∷ join 0 (pid 2) NotWanted ∷ thread_exit 1 0 ∷ dispatch 0 ∷ join 0 (pid 2) NotWanted ∷ join 0 (pid 2) NotWanted ∷ [])) (Ok Blocked ∷ (Ok Done) ∷ Ok (Handed (slot 0)) ∷ Ok (Joined (pos 0)) ∷ Err NoneSuch ∷ []) []
    -- init in slot 1, as a system thread has slot 0: a child that is handed over wakes it on its own channel, before the parent in slot 2
    ∷ plain (up_behind (fork 1 true ∷ wait 1 NotWanted ∷ dispatch 1 ∷ fork 1 true ∷ wait 1 NotWanted ∷ dispatch 1 ∷ fork 1 true ∷ exit 1 5 ∷ []))
    (Ok (Made (pid 1)) ∷ Ok (Made (pid 2)) ∷ Ok Done ∷ Ok (Handed (slot 0)) ∷ Ok (Handed (slot 1)) ∷ Ok (Made (pid 3)) ∷ Ok Blocked ∷ Ok (Handed (slot 2)) ∷ Ok (Made (pid 4)) ∷ Ok Blocked ∷ Ok (Handed (slot 3)) ∷ Ok (Made (pid 5)) ∷ Ok Done ∷ [])
    (4 ∷ 1 ∷ 2 ∷ [])
    -- .. and it reaps the child, of which it is the parent now; it does not exit, and slot 0, once free, is a slot like any other
    ∷ plain (up_behind (fork 1 true ∷ dispatch 2 ∷ fork 2 true ∷ dispatch 3 ∷ wait 1 NotWanted ∷ exit 2 5 ∷ exit 3 6 ∷ dispatch 1 ∷ wait 1 Writable ∷ wait 1 Writable ∷ wait 1 Writable
    ∷ boot ∷ exit 1 0 ∷ exit 0 0 ∷ system_return 0 ∷ fork 1 true ∷ dispatch 0 ∷ exit 0 7 ∷ wait 1 Writable ∷ []))
    (Ok Blocked ∷ (Ok Done) ∷ Ok Done ∷ Ok (Handed (slot 1)) ∷ Ok (Reaped (pid 3) 5) ∷ Ok (Reaped (pid 4) 6) ∷ Err NoneSuch
    ∷ Err InitOutOfTurn ∷ Err WrongWayOut ∷ Err WrongWayOut ∷ Ok Done ∷ Ok (Made (pid 5)) ∷ Ok (Handed (slot 0)) ∷ Ok Done ∷ Ok (Reaped (pid 5) 7) ∷ []) []
    ∷ []

pub more-runs-right : wrong 0 more_runs ≡ []
unfolding everything more_runs count_from wrong right right_looks same_by same_answer same_int
more-runs-right = refl

-- ---- the numbers themselves
pub numbers : map number_of (NoSuchHart ∷ HartIdle ∷ HartBusy ∷ QueueEmpty ∷ TableFull ∷ PidsSpent ∷ NoGroup ∷ BadAddress ∷ Unmapped ∷ NoneSuch ∷ StatusUnwritable ∷ InitOutOfTurn ∷ WrongWayOut ∷ NotADevice ∷ NameTooLong ∷ NoRoom ∷ SizeOutOfLimits ∷ NoMemory ∷ []) ≡ count_from 1 18
unfolding everything count_from
numbers = refl

pub addresses : kernel_stack 0 ∷ kernel_stack 63 ∷ user_sp 0 ∷ system_sp 0 ∷ thread_trapframe 0 ∷ [] ≡ 274877882368 ∷ 274876592128 ∷ 274877886464 ∷ 274877898752 ∷ 274877894656 ∷ []
unfolding everything
addresses = refl

pub sizes : slot_count ∷ group_count ∷ hart_count ∷ first_device ∷ name_size ∷ pid_top ∷ page_size ∷ trampoline ∷ trapframe ∷ size_top ∷ listing_top ∷ []
    ≡ 64 ∷ 64 ∷ 8 ∷ 65 ∷ 16 ∷ 18446744073709551615 ∷ 4096 ∷ 274877902848 ∷ 274877898752 ∷ 274877636608 ∷ 4224 ∷ []
unfolding everything
sizes = refl
