-- A turn of reading.
use Rattle.std.specs.Prelude.{◌≡◌, ℕ, ◌+◌, cond, List, nat_le}
use Rattle.desk.specs.Desk.{desk_top}
use Rattle.session.specs.declared.talk.Place.{Place}
use Rattle.session.specs.Talk.{Seat, hears}
use Rattle.session.specs.Places.{seat_of, Ready}
use Rattle.session.specs.Rounds.{written}

-- how much waits, once it was written if another answer might not fit behind it
unfoldable pub after_room : ℕ → ℕ → ℕ
after_room at size = cond (nat_le (at + desk_top) size) at 0

-- all of the input was heard; what was said to it may be written
pub record Heard (s : Seat) (input t line name out : List ℕ) (p : Place) : Type 0 where
  pub ready : Ready t line name out p
  pub seat : written (seat_of t line out p) ≡ written (hears s input)

-- some input was heard, which a host knows
pub record HeardSome (s : Seat) (t line name out : List ℕ) (p : Place) : Type 0 where
  pub input : List ℕ
  pub heard : Heard s input t line name out p
