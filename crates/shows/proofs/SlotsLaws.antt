-- The slots of the table, shown one by one.
use Prim.Native.Nat.{ℕ, suc, ◌+◌, ◌*◌, ◌≤◌, ◌<◌}
use native.Mathlib.Omega.{arith}
use mathlib.Core.Path.{◌≡◌}
use mathlib.Core.List.{List}
use lib.ListN.{length}
use Rattle.rules.specs.Sizes.{slot_count, name_size}
use Rattle.rules.specs.Model.{Table}
use Rattle.buffers.specs.Text.{Wrote}
use Rattle.buffers.proofs.TextLaws.{wrote_none, wrote-long, wrote-more}
use Rattle.shows.specs.Shows.{slot_text, slots_text, slot_top}

-- s slots are shown
pub record Shown (t : Table) (b : List ℕ) (at s : ℕ) (d : List ℕ) (on : ℕ) : Type 0 where
  pub few : s ≤ slot_count
  pub text : Wrote b at (slots_text t s) d on
  pub within : on ≤ at + slot_top * s

pub shown-none : (t : Table) (b : List ℕ) (at : ℕ) → at ≤ length b → Shown t b at 0 b at
unfolding slots_text
shown-none t b at h = record { few = omega arith; text = wrote_none b at h; within = omega arith }

module _ {t : Table} {b : List ℕ} {at s : ℕ} {d : List ℕ} {on : ℕ} (w : Shown t b at s d on) where
  pub shown-room : s < slot_count → at + slot_top * slot_count ≤ length b → on + slot_top ≤ length d
  unfolding name_size
  shown-room h k = omega (arith, w.within, wrote-long w.text)

  pub shown-next : {e : List ℕ} {end : ℕ} → s < slot_count → Wrote d on (slot_text t s) e end → end ≤ on + slot_top → Shown t b at (s + 1) e end
  unfolding slots_text name_size
  shown-next h v l = let z : s + 1 ≡ suc s = omega arith in rw z record {
    few = h;
    text = wrote-more w.text v;
    within = omega (arith, w.within);
  }

  pub shown-all : slot_count ≤ s → Wrote b at (slots_text t slot_count) d on × (on ≤ at + slot_top * slot_count)
  shown-all h = let z : s ≡ slot_count = omega (arith, w.few) in rw (← z) (w.text, w.within)
