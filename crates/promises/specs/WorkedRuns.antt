-- Document 01's starred worked runs, A to H: one list, one claim.
use Rattle.std.specs.Prelude.{ℕ, true, List, [], ◌∷◌, ◌++◌, replicate, ℤ, pos, negsuc, Ok, Err}
use Rattle.promises.specs.Types.{NotWanted, Writable, TableFull, BadAddress, NoneSuch, SizeOutOfLimits, NoRoom, Answer, Done, Made, Handed, Reaped, Joined, Blocked}
use Rattle.rules.specs.Model.{pid, slot}
use Rattle.rules.specs.Listing.{bytes}
use Rattle.rules.specs.Runs.{fork, dispatch, kill, wait, join, exit, thread_exit, grow}
use Rattle.rules.specs.Worked.{Case, up, ask, count_from}

-- init makes a thread, which exits with x on hart 1, and joins it
abbrev joining : ℕ → ℤ → Case
joining x z = record { calls = up (ask 0 0 ∷ dispatch 1 ∷ thread_exit 1 x ∷ join 0 (pid 2) Writable ∷ []); ends = Ok (Joined z) ∷ []; queue = []; looks = [] }

abbrev growing : ℤ → Answer → Case
growing d a = record { calls = up (grow 0 d true ∷ []); ends = a ∷ []; queue = []; looks = [] }

abbrev text_a : List ℕ
text_a = bytes "pid: 1 state: SLEEPING name: initname\npid: 2 state: RUNNABLE name: initname\n"

unfoldable pub worked_runs : List Case
worked_runs =
    -- A; a buffer of 75 gives 16, of 76 the text
    record {
      calls = up (fork 0 true ∷ wait 0 NotWanted ∷ []);
      ends = Ok (Made (pid 1)) ∷ Ok Done ∷ Ok (Handed (slot 0)) ∷ Ok (Made (pid 2)) ∷ Ok Blocked ∷ [];
      queue = 1 ∷ [];
      looks = record { room = 75; answer = Err NoRoom; part = [] } ∷ record { room = 76; answer = Ok 76; part = text_a } ∷ [];
    }
    -- B
    ∷ record { calls = up (fork 0 true ∷ wait 0 NotWanted ∷ dispatch 0 ∷ exit 0 7 ∷ []); ends = Ok (Handed (slot 1)) ∷ Ok Done ∷ []; queue = 0 ∷ []; looks = [] }
    ∷ record {
      calls = up (fork 0 true ∷ wait 0 NotWanted ∷ dispatch 0 ∷ exit 0 7 ∷ dispatch 0 ∷ wait 0 Writable ∷ fork 0 true ∷ []);
      ends = Ok (Handed (slot 0)) ∷ Ok (Reaped (pid 2) 7) ∷ Ok (Made (pid 3)) ∷ [];
      queue = 1 ∷ [];
      looks = [];
    }
    -- C
    ∷ record {
      calls = up (replicate 63 (fork 0 true) ++ (fork 0 true ∷ dispatch 1 ∷ exit 1 0 ∷ wait 0 NotWanted ∷ fork 0 true ∷ []));
      ends = Ok (Made (pid 64)) ∷ Err TableFull ∷ Ok (Handed (slot 1)) ∷ Ok Done ∷ Ok (Reaped (pid 2) 0) ∷ Ok (Made (pid 66)) ∷ [];
      queue = count_from 2 62 ++ (1 ∷ []);
      looks = [];
    }
    -- D
    ∷ record { calls = up (ask 0 0 ∷ []); ends = Ok (Made (pid 2)) ∷ []; queue = 1 ∷ []; looks = [] }
    ∷ record {
      calls = up (ask 4096 0 ∷ ask 1 0 ∷ ask 18446744073709547520 0 ∷ ask 0 4096 ∷ ask 0 4095 ∷ []);
      ends = Err BadAddress ∷ Err BadAddress ∷ Err BadAddress ∷ Err BadAddress ∷ Ok (Made (pid 2)) ∷ [];
      queue = 1 ∷ [];
      looks = [];
    }
    -- E
    ∷ joining 4294967295 (negsuc 0) ∷ joining 2147483648 (negsuc 2147483647) ∷ joining 4294967296 (pos 0)
    -- F
    ∷ growing (negsuc 4095) (Ok Done) ∷ growing (negsuc 4096) (Err SizeOutOfLimits) ∷ growing (negsuc 9223372036854775807) (Err SizeOutOfLimits)
    ∷ growing (pos 274877632512) (Ok Done) ∷ growing (pos 274877632513) (Err SizeOutOfLimits)
    -- G
    ∷ record { calls = up (fork 0 true ∷ dispatch 1 ∷ exit 1 7 ∷ kill (pid 2) ∷ kill (pid 0) ∷ []); ends = Ok Done ∷ (Ok Done) ∷ Err NoneSuch ∷ []; queue = []; looks = [] }
    -- H: slots 0 and 1 wait, slot 2 exits and leaves its child 3 to init
    ∷ record {
      calls = up (fork 0 true ∷ wait 0 NotWanted ∷ dispatch 0 ∷ fork 0 true ∷ wait 0 NotWanted ∷ dispatch 0 ∷ fork 0 true ∷ exit 0 5 ∷ []);
      ends = Ok Blocked ∷ Ok (Handed (slot 2)) ∷ Ok (Made (pid 4)) ∷ Ok Done ∷ [];
      queue = 3 ∷ 0 ∷ 1 ∷ [];
      looks = [];
    }
    ∷ []
