-- A session by rounds: however the input is read, and whenever what was said is written, the same is written in all.
use Rattle.std.specs.Prelude.{◌≡◌, ℕ, Bool, true, false, cond, List, [], ◌∷◌, ◌++◌, length, ◌==◌}
use Rattle.std.proofs.Math.Path.{refl, ap}
use Rattle.std.proofs.Common.{sym, ◌∙◌}
use mathlib.Core.List.{append_assoc, append-nil}
use Rattle.session.specs.Talk.{Seat, newline, ended, lengthened, heard, hears, closed, opened, answers_to}
use Rattle.session.specs.WholeLines.{in_pieces}

-- a piece of the input is heard, and then what was said waits, or is written
pub data Round : Type 0 where
  waits : List ℕ → Round
  writes : List ℕ → Round

unfoldable pub all_read : List Round → List ℕ
all_read [] = []
all_read (waits piece ∷ l) = piece ++ all_read l
all_read (writes piece ∷ l) = piece ++ all_read l

abbrev pub written : Seat → Seat
written s = record { table = s.table; line = s.line; number = s.number; said = [] }

-- the last round is the end of the input, and all is written then
unfoldable pub all_written : Seat → List Round → List ℕ
all_written s [] = (closed s).said
all_written s (waits piece ∷ l) = all_written (hears s piece) l
all_written s (writes piece ∷ l) = (hears s piece).said ++ all_written (written (hears s piece)) l

-- ---- what was said before changes nothing
module _ (text : List ℕ) where
  abbrev after : Seat → Seat
  after s = record { table = s.table; line = s.line; number = s.number; said = text ++ s.said }

  ended-after : (s : Seat) → ended (after s) ≡ after (ended s)
  unfolding ended
  ended-after s = simp append_assoc

  heard-after : (s : Seat) (b : ℕ) → heard (after s) b ≡ after (heard s b)
  unfolding heard
  heard-after s b = go (b == newline)
    where
      go : (y : Bool) → cond y (ended (after s)) (lengthened (after s) b) ≡ after (cond y (ended s) (lengthened s b))
      go true = ended-after s
      go false = refl

  hears-after : (s : Seat) (l : List ℕ) → hears (after s) l ≡ after (hears s l)
  unfolding hears
  hears-after s [] = refl
  hears-after s (b ∷ l) = ap (λ (x : Seat). hears x l) (heard-after s b) ∙ hears-after (heard s b) l

  closed_after : (s : Seat) → closed (after s) ≡ after (closed s)
  unfolding closed
  closed_after s = go (length s.line == 0)
    where
      go : (y : Bool) → cond y (after s) (ended (after s)) ≡ after (cond y s (ended s))
      go true = refl
      go false = ended-after s

module _ (s : Seat) (l : List ℕ) where
  again : after s.said (written s) ≡ s
  again = rw append-nil

  -- nor does what was written
  pub hears-written : written (hears s l) ≡ written (hears (written s) l)
  hears-written = ap (λ (x : Seat). written (hears x l)) (sym again) ∙ ap written (hears-after s.said (written s) l)

  said-since : (closed (hears s l)).said ≡ s.said ++ (closed (hears (written s) l)).said
  said-since = ap (λ (x : Seat). x.said) (ap (λ (x : Seat). closed (hears x l)) (sym again) ∙ ap closed (hears-after s.said (written s) l) ∙ closed_after s.said (hears (written s) l))

-- ---- so nothing is lost, and nothing comes twice
all_said : (s : Seat) (l : List Round) → all_written s l ≡ (closed (hears s (all_read l))).said
unfolding all_read all_written hears
all_said s [] = refl
all_said s (waits piece ∷ l) = all_said (hears s piece) l ∙ ap (λ (x : Seat). (closed x).said) (sym (in_pieces s piece (all_read l)))
all_said s (writes piece ∷ l) =
    ap (λ (x : List ℕ). (hears s piece).said ++ x) (all_said (written (hears s piece)) l)
    ∙ sym (said-since (hears s piece) (all_read l))
    ∙ ap (λ (x : Seat). (closed x).said) (sym (in_pieces s piece (all_read l)))

pub all-written : (l : List Round) → all_written opened l ≡ answers_to (all_read l)
unfolding answers_to
all-written l = all_said opened l
