-- A session in lent buffers.
use Rattle.std.specs.Prelude.{◌≡◌, ℕ, ◌+◌, ◌≤◌, List, length, take, drop}
use Rattle.promises.specs.Order.Sound.{Sound}
use Rattle.words.specs.Reading.{table_of}
use Rattle.desk.specs.Desk.{desk_top}
use Rattle.session.specs.declared.talk.Place.{Place}
use Rattle.session.specs.declared.talk.Taken.{Taken}
use Rattle.session.specs.Talk.{Seat, longest_line, hears}

-- a line that fills its buffer is too long
abbrev pub line_room : ℕ
line_room = longest_line + 1

-- the line so far, and what was said, are the fronts of their buffers
abbrev pub seat_of : List ℕ → List ℕ → List ℕ → Place → Seat
seat_of t line out p = record { table = table_of t; line = take p.len line; number = p.number; said = take p.at out }

-- nothing heard, nothing said
abbrev pub at_start : Place
at_start = record { len = 0; number = 0; at = 0 }

-- the table is in order, and there is room for a line, a name and one more answer
pub record Ready (t line name out : List ℕ) (p : Place) : Type 0 where
  pub sound : Sound (table_of t)
  pub for_line : length line ≡ line_room
  pub for_name : line_room ≤ length name
  pub len : p.len ≤ line_room
  pub for_answer : p.at + desk_top ≤ length out

-- the buffers hold this seat, and the table is in order; behind what was said `out` is as it was
pub record Seated (s : Seat) (was t line out : List ℕ) (p : Place) : Type 0 where
  pub seat : seat_of t line out p ≡ s
  pub sound : Sound (table_of t)
  pub len : p.len ≤ line_room
  pub at : p.at ≤ length out
  pub rest : drop p.at out ≡ drop p.at was

-- so much of the input was heard, and all of it unless another answer might not fit
pub record HeardPart (s : Seat) (was input t line out : List ℕ) (r : Taken) : Type 0 where
  pub holds : Seated (hears s (take r.used input)) was t line out r.place
  pub used : r.used ≤ length input
  pub all : r.place.at + desk_top ≤ length out → r.used ≡ length input
