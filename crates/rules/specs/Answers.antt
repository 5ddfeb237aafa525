-- Document 01's number for each refusal, and what each answer tells.
use Rattle.std.specs.Prelude.{ℕ, List, [], ◌∷◌, ℤ, pos, Result, Ok, Err}
use Rattle.rules.specs.Types.{Refusal, NoSuchHart, HartIdle, HartBusy, QueueEmpty, TableFull, PidsSpent, NoGroup, BadAddress, Unmapped, NoneSuch, StatusUnwritable, InitOutOfTurn, WrongWayOut, NotADevice, NameTooLong, NoRoom, SizeOutOfLimits, NoMemory, Answer, Done, Made, Handed, Reaped, Joined, Blocked}

unfoldable pub number_of : Refusal → ℕ
-- hart number 8 or more
number_of NoSuchHart = 1
-- hart runs nothing (not for dispatch)
number_of HartIdle = 2
-- dispatch on a hart that runs a slot
number_of HartBusy = 3
-- dispatch, queue empty
number_of QueueEmpty = 4
-- no UNUSED slot; pid spent
number_of TableFull = 5
-- pid counter at 2^64 - 1
number_of PidsSpent = 6
-- fork, thread creation, join or grow by a slot without group
number_of NoGroup = 7
-- thread address or alignment wrong
number_of BadAddress = 8
-- a host answer says unmapped
number_of Unmapped = 9
-- wait: no non-thread child, or killed with none ZOMBIE; join: no such thread; kill: no such pid
number_of NoneSuch = 10
-- wait or join found its ZOMBIE, status wanted and unwritable; the ZOMBIE stays
number_of StatusUnwritable = 11
-- boot when init exists; start when init is absent or not ALLOCATED
number_of InitOutOfTurn = 12
-- exit by init, a system thread or a thread; thread exit by init or a system thread; system return by another
number_of WrongWayOut = 13
-- device sleep or wake below the first device
number_of NotADevice = 14
-- name over 16 bytes
number_of NameTooLong = 15
-- listing doesn't fit
number_of NoRoom = 16
-- grow outside its limits
number_of SizeOutOfLimits = 17
-- fork, or grow upward: memory not had; for fork the pid is spent
number_of NoMemory = 18

-- an answer as numbers: which case it is, then its values
unfoldable pub values_of : Answer → List ℤ
values_of (Ok Done) = pos 0 ∷ []
values_of (Ok (Made p)) = pos 1 ∷ pos p.0 ∷ []
values_of (Ok (Handed s)) = pos 2 ∷ pos s.0 ∷ []
values_of (Ok (Reaped p x)) = pos 3 ∷ pos p.0 ∷ pos x ∷ []
values_of (Ok (Joined x)) = pos 4 ∷ x ∷ []
values_of (Ok Blocked) = pos 5 ∷ []
values_of (Err r) = pos 6 ∷ pos (number_of r) ∷ []

unfoldable pub room_values : Result ℕ Refusal → List ℤ
room_values (Ok n) = pos 0 ∷ pos n ∷ []
room_values (Err r) = pos 6 ∷ pos (number_of r) ∷ []
