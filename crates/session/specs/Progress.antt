-- Where one more answer fits, a piece that isn't empty is heard at least in part.
use Rattle.std.specs.Prelude.{◌≡◌, ℕ, zero, suc, ◌<◌, List, length, take, refl}
use native.Mathlib.Omega.{arith}
use Rattle.std.proofs.Math.Path.{ap}
use Rattle.std.proofs.Common.{◌∙◌}
use Rattle.std.proofs.Math.Seq.{length-take-le}
use Rattle.session.specs.declared.talk.Place.{Place}
use Rattle.session.specs.declared.talk.Taken.{Taken}
use Rattle.session.specs.Talk.{Seat, hears}
use Rattle.session.specs.Places.{seat_of, Ready, HeardPart}

module _ {t line name out : List ℕ} {p : Place} (a : Ready t line name out p) (piece : List ℕ) {u l d : List ℕ} {r : Taken}
    (k : HeardPart (seat_of t line out p) out piece u l d r) (same : length d ≡ length out) (some : 0 < length piece) where
  stays : r.used ≡ 0 → r.place.at ≡ p.at
  unfolding hears
  stays e =
      omega (
        arith,
        ap (λ (s : Seat). length s.said) (k.holds.seat ∙ ap (λ (n : ℕ). hears (seat_of t line out p) (take n piece)) e),
        length-take-le r.place.at d k.holds.at,
        length-take-le p.at out (omega (arith, a.for_answer)),
      )

  pub goes_on : 0 < r.used
  goes_on = go r.used refl
    where
      go : (n : ℕ) → r.used ≡ n → 0 < n
      go zero e = absurd (omega (arith, k.all (omega (arith, stays e, a.for_answer))))
      go (suc n) e = omega arith
