-- What the parts of the calls answer, as the rules have it.
use Rattle.std.specs.Prelude.{ℕ, ◌<◌, cond, leb, Option, Some, None, Result, Ok, Err, IfOk, ok_or}
use Rattle.rules.specs.declared.Slot.{Slot}
use Rattle.rules.specs.declared.Refusal.{Refusal}
use Rattle.rules.specs.declared.ProcState.TheVariants.{UNUSED}
use Rattle.rules.specs.declared.ProcMeta.{ProcMeta}
use Rattle.rules.specs.declared.Kin.{Kin}
use Rattle.rules.specs.declared.Start.{Start}
use Rattle.rules.specs.declared.Process.{Process}
use Rattle.rules.specs.declared.Refusal.TheVariants.{NoSuchHart, HartIdle, TableFull, PidsSpent}
use Rattle.rules.specs.Sizes.{slot_count, hart_count, pid_top}
use Rattle.rules.specs.Model.{Core, Table, hart_at, is}
use Rattle.rules.specs.Moves.{lowest}
use Rattle.rules.specs.Calls.{Outcome, refuse, spent}

-- the caller on a hart
abbrev pub runs_on : Option Slot → Result ℕ Refusal
runs_on None = Err HartIdle
runs_on (Some s) = Ok s.0

unfoldable pub caller_of : Core → ℕ → Result ℕ Refusal
caller_of c h = cond (leb hart_count h) (Err NoSuchHart) (runs_on (hart_at c h))

abbrev pub InHart : ℕ → Result ℕ Refusal → Type 0
InHart h r = IfOk r (λ s. (s < slot_count) × (h < hart_count))

-- a slot taken, and the table then
unfoldable pub taken_of : Table → Result ℕ Refusal
taken_of t = cond (leb pid_top t.books.pids) (Err PidsSpent) (ok_or (lowest (is UNUSED) t.core.slots) TableFull)

unfoldable pub after_take : Table → Table
after_take t = cond (leb pid_top t.books.pids) t (spent t)

abbrev pub InSlots : Result ℕ Refusal → Type 0
InSlots r = IfOk r (λ s. s < slot_count)

-- what a call goes on with
unfoldable pub or_refused : Table → Result ℕ Refusal → (ℕ → Outcome) → Outcome
or_refused t (Err r) k = refuse r t
or_refused t (Ok s) k = k s

abbrev pub slot_of : ProcMeta → Kin → Start → Process
slot_of m k b = record { meta = m; kin = k; start = b }
