-- Every slot, hart and group that is read is one that the table has: what the definitions say beyond is never asked.
use Rattle.std.specs.Prelude.{ℕ, ◌≤◌, ◌<◌, ◌≡◌, Bool, List, get_or, Option, Some, None}
use native.Mathlib.Omega.{arith}
use Rattle.std.proofs.Math.Path.{refl}
use Rattle.std.proofs.Common.{ap, ◌∙◌}
use Rattle.std.proofs.Math.Bool.{true, false}
use Rattle.std.proofs.Math.ListN.{length, get_or-eq_default}
use Rattle.std.proofs.Math.Dec.{leb}
use borrow.Author.Tests.{eq-eqb, leb-true, leb-false}
use Rattle.promises.specs.Types.{UNUSED, RUNNABLE, Process, Slot}
use Rattle.rules.specs.Sizes.{slot_count, group_count}
use Rattle.rules.specs.Model.{Table, at, hart_at, group_at, free, no_group, is, is_slot, same_group}
use Rattle.rules.specs.Runs.{Call}
use Rattle.promises.specs.Laws.Bools.{clash}
use Rattle.promises.specs.Laws.Counts.{tally-one}
use Rattle.promises.specs.Laws.Scans.{lowest-range, lowest-passes}
use Rattle.promises.specs.Order.Sound.{is_in, InTable, InGroups, names, Sound}
use Rattle.promises.specs.Order.States.{other, used-range, runs-range}
use Rattle.promises.specs.Order.Room.{queued-runnable}
use Rattle.promises.specs.Order.CountedKept.{group-had}
use Rattle.promises.specs.Reached.{reached}
use Rattle.promises.proofs.Reached.{reached-sound}
use Rattle.promises.specs.Places.{Placed}

module _ (t : Table) (w : Sound t) where
  used-in : (s : ℕ) → is UNUSED (at t.core s) ≡ false → s < slot_count
  used-in s u = omega (arith, w.queued.tall, used-range t.core.slots s u)

  used-slot : (p : Option Slot) → ((s : ℕ) → is_slot s p ≡ true → is UNUSED (at t.core s) ≡ false) → InTable p
  used-slot None u = tt
  used-slot (Some s) u = used-in s.0 (u s.0 (eq-eqb s.0 s.0 refl))

  held_in : (p : Option Slot) (h : ℕ) → hart_at t.core h ≡ p → InTable p
  held_in None h e = tt
  held_in (Some s) h e = omega (arith, w.queued.tall, runs-range h s.0 t.core w.queued e)

  -- a slot past the table has no group
  grouped-range : (s g : ℕ) → (at t.core s).kin.group ≡ Some g → s < length t.core.slots
  unfolding free
  grouped-range s g e = go (leb (length t.core.slots) s) refl
    where
      go : (b : Bool) → leb (length t.core.slots) s ≡ b → s < length t.core.slots
      go true r = absurd (clash (ap is_in e) (ap (λ (p : Process). is_in p.kin.group) (get_or-eq_default t.core.slots free (leb-true _ s r))))
      go false r = leb-false _ s r

  counted-in : (s g : ℕ) → (at t.core s).kin.group ≡ Some g → 1 ≤ (group_at t.books g).count
  counted-in s g e = omega (
    arith,
    w.counted.count g,
    tally-one (names g) t.core.slots free s (grouped-range s g e) (ap (same_group (Some g)) e ∙ eq-eqb g g refl),
  )

  group-in : (m : Option ℕ) (s : ℕ) → (at t.core s).kin.group ≡ m → InGroups m
  group-in None s e = tt
  group-in (Some g) s e = go (leb (length t.books.groups) g) refl
    where
      go : (b : Bool) → leb (length t.books.groups) g ≡ b → g < group_count
      go true r = absurd (omega (arith, counted-in s g e, ap (λ x. x.count) (get_or-eq_default t.books.groups no_group (leb-true _ g r))))
      go false r = omega (arith, w.counted.tall, leb-false _ g r)

  -- of any sound table, so also between two moves of a call
  pub sound-placed : Placed t
  unfolding free
  sound-placed = record {
    slots = w.queued.tall;
    harts = w.queued.wide;
    groups = w.counted.tall;
    queued = λ i r. used-in _ (other RUNNABLE UNUSED (at t.core (get_or t.core.queue i 0)) (queued-runnable t.core w.queued i r));
    held = λ h. held_in (hart_at t.core h) h refl;
    init = used-slot t.books.init (λ s e. ((w.tidy s).first e).elder.used);
    parent = λ s. used-slot (at t.core s).kin.parent (λ q e. (w.raised.elder s q e).used);
    found = λ test i o. omega (arith, w.queued.tall, lowest-range test t.core.slots free i o);
    group = λ s. group-in (at t.core s).kin.group s refl;
    counts = counted-in;
    new = λ s o. omega (
      arith,
      w.counted.tall,
      (group-had t.core t.books s w.counted w.queued.tall (lowest-range (is UNUSED) t.core.slots free s o)
          (ap (λ (p : Process). p.kin.group) ((w.tidy s).unused (lowest-passes (is UNUSED) t.core.slots free s o)))).range,
    );
  }

pub placed : (cs : List Call) → Placed (reached cs)
placed cs = sound-placed (reached cs) (reached-sound cs)
