-- The table as text: its first line, and a line for each slot.
use Rattle.std.specs.Prelude.{ℕ, suc, zero, ◌+◌, ◌*◌, cond, List, [], ◌∷◌, ◌++◌, map, Option, Some, None}
use Rattle.rules.specs.declared.Slot.{Slot}
use Rattle.rules.specs.declared.ProcState.TheVariants.{UNUSED}
use Rattle.rules.specs.declared.ProcMeta.{ProcMeta}
use Rattle.rules.specs.declared.Kin.{Kin}
use Rattle.rules.specs.declared.Start.{Start}
use Rattle.rules.specs.declared.Process.{Process}
use Rattle.rules.specs.Sizes.{slot_count, hart_count, name_size}
use Rattle.rules.specs.Model.{Books, Table, is, at, group_at}
use Rattle.rules.specs.Listing.{bytes, digits, state_text}
use Rattle.pieces.specs.Pieces.{number_top, place_text, hex_text, field, flag, place}

-- ---- commas
-- each after a comma
unfoldable pub others : List (List ℕ) → List ℕ
others [] = []
others (x ∷ l) = bytes "," ++ x ++ others l

-- commas between them
unfoldable pub separated : List (List ℕ) → List ℕ
separated [] = []
separated (x ∷ l) = x ++ others l

-- ---- the first line
unfoldable pub queue_text : List ℕ → List ℕ
queue_text [] = bytes " queue -"
queue_text (s ∷ q) = bytes " queue " ++ separated (map digits (s ∷ q))

unfoldable pub harts_text : List (Option Slot) → List ℕ
harts_text harts = bytes " harts " ++ separated (map place_text harts)

unfoldable pub head_text : Table → List ℕ
head_text t =
    field "pids " t.books.pids ++ place " init " t.books.init ++ queue_text t.core.queue ++ harts_text t.core.harts ++ bytes "\n"

-- ---- the line of a slot
unfoldable pub meta_text : ProcMeta → List ℕ
meta_text m =
    bytes " " ++ state_text m.state ++ field " channel " m.channel ++ flag " killed " m.killed ++ field " status " m.xstate
    ++ field " pid " m.pid.0 ++ flag " queued " m.queued

unfoldable pub group_text : Books → Option ℕ → List ℕ
group_text b None = bytes " group - size 0"
group_text b (Some g) = field " group " g ++ field " size " (group_at b g).size

unfoldable pub kin_text : Books → Kin → List ℕ
kin_text b k = place " parent " k.parent ++ flag " thread " k.thread ++ flag " system " k.system ++ group_text b k.group

unfoldable pub record_text : Start → List ℕ
record_text b = field " start " b.entry ++ field "/" b.top ++ field "/" b.arg ++ field "/" b.ret

unfoldable pub name_text : Start → List ℕ
name_text b = bytes " name " ++ hex_text b.name

unfoldable pub start_text : Start → List ℕ
start_text b = field " trapframe " b.trapframe ++ field " sp " b.sp ++ record_text b ++ name_text b

unfoldable pub used_text : Books → ℕ → Process → List ℕ
used_text b s p = field "slot " s ++ meta_text p.meta ++ kin_text b p.kin ++ start_text p.start ++ bytes "\n"

-- an UNUSED slot has none
unfoldable pub slot_text : Table → ℕ → List ℕ
slot_text t s = cond (is UNUSED (at t.core s)) [] (used_text t.books s (at t.core s))

-- ---- the whole table
-- its first slots
unfoldable pub slots_text : Table → ℕ → List ℕ
slots_text t zero = []
slots_text t (suc n) = slots_text t n ++ slot_text t n

unfoldable pub show_text : Table → List ℕ
show_text t = head_text t ++ slots_text t slot_count

-- ---- at the longest: labels, numbers, and the end of a line
-- a number and a comma
abbrev pub item_top : ℕ
item_top = 1 + number_top

abbrev pub queue_top : ℕ
queue_top = 7 + item_top * slot_count

abbrev pub harts_top : ℕ
harts_top = 7 + item_top * hart_count

abbrev pub head_top : ℕ
head_top = 12 + 2 * number_top + queue_top + harts_top

abbrev pub state_top : ℕ
state_top = 10

abbrev pub meta_top : ℕ
meta_top = 40 + 3 * number_top + state_top

abbrev pub group_top : ℕ
group_top = 13 + 2 * number_top

abbrev pub kin_top : ℕ
kin_top = 26 + number_top + group_top

abbrev pub record_top : ℕ
record_top = 10 + 4 * number_top

abbrev pub name_top : ℕ
name_top = 6 + 2 * name_size

abbrev pub start_top : ℕ
start_top = 15 + 2 * number_top + record_top + name_top

abbrev pub slot_top : ℕ
slot_top = 6 + number_top + meta_top + kin_top + start_top

abbrev pub show_top : ℕ
show_top = head_top + slot_top * slot_count
