-- An answer as text.
use Rattle.std.specs.Prelude.{ℕ, ◌+◌, ◌*◌, List, ◌++◌, Ok, Err}
use Rattle.rules.specs.declared.Refusal.{Refusal}
use Rattle.rules.specs.declared.Refusal.TheVariants.{NoSuchHart, HartIdle, HartBusy, QueueEmpty, TableFull, PidsSpent, NoGroup, BadAddress, Unmapped, NoneSuch, StatusUnwritable, InitOutOfTurn, WrongWayOut, NotADevice, NameTooLong, NoRoom, SizeOutOfLimits, NoMemory}
use Rattle.rules.specs.Types.{Answer}
use Rattle.rules.specs.declared.Grant.TheVariants.{Done, Made, Handed, Reaped, Joined, Blocked}
use Rattle.rules.specs.Answers.{number_of}
use Rattle.rules.specs.Listing.{bytes}
use Rattle.pieces.specs.Pieces.{signed_digits, field, number_top}

unfoldable pub refusal_words : Refusal → List ℕ
refusal_words NoSuchHart = bytes "no such hart"
refusal_words HartIdle = bytes "hart idle"
refusal_words HartBusy = bytes "hart busy"
refusal_words QueueEmpty = bytes "queue empty"
refusal_words TableFull = bytes "table full"
refusal_words PidsSpent = bytes "pids spent"
refusal_words NoGroup = bytes "no group"
refusal_words BadAddress = bytes "bad address"
refusal_words Unmapped = bytes "unmapped"
refusal_words NoneSuch = bytes "none such"
refusal_words StatusUnwritable = bytes "status unwritable"
refusal_words InitOutOfTurn = bytes "init out of turn"
refusal_words WrongWayOut = bytes "wrong way out"
refusal_words NotADevice = bytes "not a device"
refusal_words NameTooLong = bytes "name too long"
refusal_words NoRoom = bytes "no room"
refusal_words SizeOutOfLimits = bytes "size out of limits"
refusal_words NoMemory = bytes "no memory"

unfoldable pub said_of : Answer → List ℕ
said_of (Ok Done) = bytes "done"
said_of (Ok (Made p)) = field "pid " p.0
said_of (Ok (Handed s)) = field "slot " s.0
said_of (Ok (Reaped p x)) = field "reaped " p.0 ++ field " " x
said_of (Ok (Joined x)) = bytes "joined " ++ signed_digits x
said_of (Ok Blocked) = bytes "blocked"
said_of (Err r) = field "refused " (number_of r) ++ bytes " " ++ refusal_words r

unfoldable pub answer_text : Answer → List ℕ
answer_text a = said_of a ++ bytes "\n"

-- ---- at the longest: a refusal's words; two numbers, or one and those words; the end of the line
abbrev pub refusal_top : ℕ
refusal_top = 18

abbrev pub said_top : ℕ
said_top = 8 + 2 * number_top

abbrev pub answer_top : ℕ
answer_top = said_top + 1
