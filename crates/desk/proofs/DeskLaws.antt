-- A line's answer, by what the line means.
use Rattle.std.specs.Prelude.{Ok, Err}
use Prim.Native.Nat.{ℕ, ◌+◌, ◌≤◌}
use native.Mathlib.Omega.{arith}
use mathlib.Core.Path.{◌≡◌, refl, sym, ap, ◌∙◌}
use mathlib.Core.List.{List}
use lib.ListN.{length}
use Rattle.rules.specs.declared.Refusal.{Refusal}
use Rattle.rules.specs.declared.Refusal.TheVariants.{NoRoom}
use Rattle.rules.specs.declared.Grant.TheVariants.{Done}
use Rattle.rules.specs.Sizes.{name_size, line_top, listing_top}
use Rattle.rules.specs.Listing.{listing, room_for}
use Rattle.promises.specs.Order.Sound.{Sound}
use Rattle.promises.specs.ListingBound.{listing-short}
use Rattle.listing.proofs.RoomLaws.{fits_told, short-told}
use Rattle.rules.specs.Model.{Table, fresh}
use Rattle.rules.specs.Runs.{Call}
use Rattle.buffers.specs.Text.{Wrote}
use Rattle.buffers.proofs.TextLaws.{wrote_none}
use Rattle.texts.specs.Texts.{answer_text, answer_top}
use Rattle.shows.specs.Shows.{show_text}
use Rattle.desk.specs.Desk.{misread_text, table_after, text_for, misread_top, desk_top, Performed, Answered}
use Rattle.lines.specs.Meaning.{Meaning, passed, called, listed, shows, renews, misread, meaning_of}
use Rattle.lines.specs.declared.Why.{Why}
use Rattle.lines.specs.declared.Said.{Said}

-- ---- the listing is no longer than the slots shown
module _ (t : Table) (w : Sound t) where
  short : length (listing t) ≤ desk_top
  unfolding listing_top line_top name_size
  short = omega (arith, listing-short t w.queued.tall (λ s. omega (arith, (w.tidy s).name)))

  pub list-room : (b : List ℕ) (at : ℕ) → at + desk_top ≤ length b → at + length (listing t) ≤ length b
  list-room b at h = omega (arith, short)

  module _ (room : ℕ) {b d : List ℕ} {at end : ℕ} where
    pub list-fits : {n : ℕ} → Ok n ≡ room_for t room → Wrote b at (listing t) d end → Wrote b at (text_for t 0 (listed room)) d end × (end ≤ at + desk_top)
    unfolding text_for
    list-fits e v = (rw (fits_told t _ room e).0 v, omega (arith, v.place, short))

    pub list-short : {r : Refusal} → Err r ≡ room_for t room → Wrote b at (answer_text (Err NoRoom)) d end → end ≤ at + answer_top
        → Wrote b at (text_for t 0 (listed room)) d end × (end ≤ at + desk_top)
    unfolding text_for name_size
    list-short {r} e v h = (rw (short-told t r room e) v, omega arith)

-- ---- a line, by what it means
module _ {t : Table} {number : ℕ} {m : Meaning} {b d : List ℕ} {at end : ℕ} where
  answered-by : (x : Meaning) → x ≡ m → {u : Table} → u ≡ table_after t x → Sound u → Wrote b at (text_for t number x) d end → end ≤ at + desk_top → Answered t number m u b at d end
  answered-by x e f w v h = rw (← e) record { table = f; text = v; within = h; sound = w }

module _ {t : Table} {number : ℕ} {m : Meaning} {b : List ℕ} {at : ℕ} where
  pub nothing_said : passed ≡ m → Sound t → at + desk_top ≤ length b → Answered t number m t b at b at
  unfolding table_after text_for name_size
  nothing_said e w h = answered-by passed e refl w (wrote_none b at (omega arith)) (omega arith)

  module _ {d : List ℕ} {end : ℕ} where
    pub call-made : {c : Call} → called c ≡ m → {u : Table} → Performed c t u b at d end → Answered t number m u b at d end
    unfolding table_after text_for name_size
    call-made {c} e p = answered-by (called c) e p.table p.sound p.text (omega (arith, p.within))

    pub list-made : (room : ℕ) → listed room ≡ m → Sound t → Wrote b at (text_for t 0 (listed room)) d end → end ≤ at + desk_top → Answered t number m t b at d end
    unfolding table_after text_for
    list-made room e w v h = answered-by (listed room) e refl w v h

    pub show-made : shows ≡ m → Sound t → Wrote b at (show_text t) d end → end ≤ at + desk_top → Answered t number m t b at d end
    unfolding table_after text_for
    show-made e w v h = answered-by shows e refl w v h

    pub fresh-made : renews ≡ m → {u : Table} → u ≡ fresh → Sound u → Wrote b at (answer_text (Ok Done)) d end → end ≤ at + answer_top → Answered t number m u b at d end
    unfolding table_after text_for name_size
    fresh-made e f w v h = answered-by renews e f w v (omega arith)

    pub why-said : (why : Why) → misread why ≡ m → Sound t → Wrote b at (misread_text number why) d end → end ≤ at + misread_top → Answered t number m t b at d end
    unfolding table_after text_for name_size
    why-said why e w v h = answered-by (misread why) e refl w v (omega arith)

pub said-is : (n : List ℕ) (r x : Said) {m : Meaning} → r ≡ x → meaning_of n r ≡ m → meaning_of n x ≡ m
said-is n r x e f = sym (ap (meaning_of n) e) ∙ f

pub desk-room : (at : ℕ) {n : ℕ} → at + desk_top ≤ n → at + misread_top ≤ n
unfolding name_size
desk-room at h = omega arith

pub answer-room : (at : ℕ) {n : ℕ} → at + desk_top ≤ n → at + answer_top ≤ n
unfolding name_size
answer-room at h = omega arith
