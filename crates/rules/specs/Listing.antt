-- The listing: its text, whether it fits, and what a lent buffer holds afterwards.
use Rattle.std.specs.Prelude.{ℕ, zero, suc, ◌+◌, ◌/◌, ◌%◌, Bool, true, false, cond, ◌&&◌, List, [], ◌∷◌, ◌++◌, map, length, drop, eqb, leb, ltb, Result, Ok, Err}
use Prim.Native.Char.{code}
use Prim.Native.String as S
use Rattle.rules.specs.Types.{ProcState, UNUSED, ALLOCATED, RUNNABLE, RUNNING, SLEEPING, ZOMBIE, Process, NoRoom, Refusal}
use Rattle.rules.specs.Model.{Table, is}

unfoldable pub bytes : S.String → List ℕ
bytes S.[] = []
bytes (S.◌∷◌ c s) = code c ∷ bytes s

-- in decimal, the highest digit first; 20 digits hold any pid
unfoldable pub digits_in : ℕ → ℕ → List ℕ
digits_in zero n = []
digits_in (suc k) n = elim (ltb n 10) [ true ↦ (48 + n) ∷ [] | false ↦ digits_in k (n / 10) ++ ((48 + n % 10) ∷ []) ]

unfoldable pub digits : ℕ → List ℕ
digits n = digits_in 20 n

unfoldable pub state_text : ProcState → List ℕ
state_text UNUSED = bytes "UNUSED"
state_text ALLOCATED = bytes "ALLOCATED"
state_text RUNNABLE = bytes "RUNNABLE"
state_text RUNNING = bytes "RUNNING"
state_text SLEEPING = bytes "SLEEPING"
state_text ZOMBIE = bytes "ZOMBIE"

-- a name stops at the first zero byte; bytes outside 32 to 126 show as `?`
unfoldable pub up_to_zero : List ℕ → List ℕ
up_to_zero [] = []
up_to_zero (x ∷ xs) = elim (eqb x 0) [ true ↦ [] | false ↦ x ∷ up_to_zero xs ]

unfoldable pub shown : ℕ → ℕ
shown b = cond (leb 32 b && leb b 126) b 63

unfoldable pub line_of : Process → List ℕ
line_of p =
    bytes "pid: " ++ digits p.meta.pid.0 ++ bytes " state: " ++ state_text p.meta.state ++ bytes " name: "
    ++ map shown (up_to_zero p.start.name) ++ bytes "\n"

unfoldable pub lines_of : List Process → List ℕ
lines_of [] = []
lines_of (p ∷ ps) = cond (is UNUSED p) [] (line_of p) ++ lines_of ps

-- by slot, UNUSED skipped
unfoldable pub listing : Table → List ℕ
listing t = lines_of t.core.slots

unfoldable pub fits_in : Table → ℕ → Bool
fits_in t room = leb (length (listing t)) room

-- the companion question
unfoldable pub room_for : Table → ℕ → Result ℕ Refusal
room_for t room = cond (fits_in t room) (Ok (length (listing t))) (Err NoRoom)

-- the answer: the part of the buffer that was written
unfoldable pub listed_part : Table → List ℕ → List ℕ
listed_part t buffer = cond (fits_in t (length buffer)) (listing t) []

-- the whole buffer afterwards
unfoldable pub listed_buffer : Table → List ℕ → List ℕ
listed_buffer t buffer = listed_part t buffer ++ drop (length (listed_part t buffer)) buffer
