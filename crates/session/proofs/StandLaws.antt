-- Where a session stands, turn by turn: what was heard.
use Rattle.std.proofs.Common.{◌≡◌, ℕ, ◌+◌, ◌-◌, ◌<◌, ◌≤◌, List, [], ◌++◌, length, take, drop, sym, refl, ap, ◌∙◌, subst, arith, length-drop, length-take-le, take_all, take-add, le-leb}
use borrow.Author.Tests.{lt-leb}
use Rattle.desk.specs.Desk.{desk_top}
use Rattle.session.specs.declared.talk.Place.{Place}
use Rattle.session.specs.declared.talk.Taken.{Taken}
use Rattle.session.specs.Talk.{Seat, hears}
use Rattle.session.specs.Places.{seat_of, Ready, HeardPart}
use Rattle.session.specs.WholeLines.{in_pieces}
use Rattle.session.specs.Rounds.{written, hears-written}
use Rattle.session.specs.Progress.{goes_on}
use Rattle.session.specs.Turns.{after_room, Heard, HeardSome}

-- ---- room for another answer
module _ (at size : ℕ) where
  pub stays : at + desk_top ≤ size → (at ≡ after_room at size) × (at + desk_top ≤ size)
  unfolding after_room
  stays h = (rw (le-leb (at + desk_top) size h), h)

  pub leaves : desk_top ≤ size → size < at + desk_top → (0 ≡ after_room at size) × (0 + desk_top ≤ size)
  unfolding after_room
  leaves g h = (rw (lt-leb (at + desk_top) size h), omega arith)

-- ---- a piece
-- what is left of it
rest-length : (l : List ℕ) (done : ℕ) → done ≤ length l → length (take (length l - done) (drop done l)) ≡ length l - done
rest-length l done h = length-take-le (length l - done) (drop done l) (omega (arith, length-drop done l))

-- the part of a piece that was taken now, behind what was taken before
taken_more : (l : List ℕ) (done used : ℕ) → done ≤ length l → take done l ++ take used (take (length l - done) (drop done l)) ≡ take (done + used) l
taken_more l done used h = rw (take_all (length l - done) (drop done l) (omega (arith, length-drop done l))) (sym (take-add done used l))

-- ---- heard behind what was heard before
onward : (s a : Seat) (input piece : List ℕ) → written a ≡ written (hears s input) → written (hears a piece) ≡ written (hears s (input ++ piece))
onward s a input piece e =
    hears-written a piece ∙ ap (λ (x : Seat). written (hears x piece)) e ∙ sym (hears-written (hears s input) piece) ∙ ap written (sym (in_pieces s input piece))

pub none-heard : {t line name out : List ℕ} {p : Place} → Ready t line name out p → Heard (seat_of t line out p) [] t line name out p
unfolding hears
none-heard r = record { ready = r; seat = refl }

pub some-heard : {s : Seat} {t line name out piece u line' name' d : List ℕ} {p q : Place} → HeardSome s t line name out p
    → Heard (seat_of t line out p) piece u line' name' d q → HeardSome s u line' name' d q
some-heard {s} {t} {line} {out = out} {piece} {p = p} h k =
    record { input = h.input ++ piece; heard = record { ready = k.ready; seat = k.seat ∙ onward s (seat_of t line out p) h.input piece h.heard.seat } }

-- ---- so much of a piece was taken
pub record Midway (s : Seat) (chunk t line name out : List ℕ) (p : Place) (done : ℕ) : Type 0 where
  pub within : done ≤ length chunk
  pub heard : Heard s (take done chunk) t line name out p

pub begun : {t line name out : List ℕ} {p : Place} (chunk : List ℕ) → Ready t line name out p → Midway (seat_of t line out p) chunk t line name out p 0
begun chunk r = record { within = omega arith; heard = none-heard r }

module _ {s : Seat} {chunk t line name out : List ℕ} {p : Place} {done : ℕ} (m : Midway s chunk t line name out p done) where
  pub all-heard : length chunk ≤ done → Heard s chunk t line name out p
  all-heard h = subst (λ (x : List ℕ). Heard s x t line name out p) (take_all done chunk h) m.heard

  module _ {u line' d : List ℕ} {r : Taken} (k : HeardPart (seat_of t line out p) out (take (length chunk - done) (drop done chunk)) u line' d r) (c : length d ≡ length out) where
    pub room-made : (desk_top ≤ length d) × (r.place.at ≤ length d)
    room-made = (omega (arith, m.heard.ready.for_answer), k.holds.at)

    -- it ends
    pub nearer : done < length chunk → (0 < r.used) × (done + r.used ≤ length chunk)
    nearer h =
        let f = rest-length chunk done m.within in
        (goes_on m.heard.ready (take (length chunk - done) (drop done chunk)) k c (omega (arith, f)), omega (arith, f, k.used))

    pub next : {name' : List ℕ} {n : ℕ} → done < length chunk → length line' ≡ length line → length name' ≡ length name → n + desk_top ≤ length d
        → Midway s chunk u line' name' d (record { len = r.place.len; number = r.place.number; at = n }) (done + r.used)
    next h a b f = record {
      within = (nearer h).1;
      heard = record {
        ready = record {
          sound = k.holds.sound;
          for_line = a ∙ m.heard.ready.for_line;
          for_name = omega (arith, m.heard.ready.for_name);
          len = k.holds.len;
          for_answer = f;
        };
        seat =
            ap written k.holds.seat
            ∙ onward s (seat_of t line out p) (take done chunk) (take r.used (take (length chunk - done) (drop done chunk))) m.heard.seat
            ∙ ap (λ (x : List ℕ). written (hears s x)) (taken_more chunk done r.used m.within);
      };
    }
