-- What a slot's state says: one excludes the others, a used slot is in range, what a hart runs is RUNNING.
use Rattle.std.specs.Prelude.{ℕ, zero, suc, ◌<◌, ◌≡◌, refl, ◌⊎◌, true, false, List, [], ◌∷◌, length, get_or, eqb, Option, Some, None}
use Rattle.std.proofs.Common.{arith, zero-lt-suc, sym, ap, ◌∙◌, inl, inr, eqb-true, eq-eqb}
use Rattle.promises.specs.Types.{Slot, ProcState, UNUSED, ALLOCATED, RUNNABLE, RUNNING, SLEEPING, ZOMBIE, Process}
use Rattle.rules.specs.Model.{Core, at, hart_at, free, is, is_slot, known, slot, state_code}
use Rattle.promises.specs.Laws.Bools.{clash}
use Rattle.promises.specs.Laws.Counts.{ind-true, tally, tally-one}
use Rattle.promises.specs.Order.Sound.{Queued}

pub other : (a b : ProcState) (p : Process) → is a p ≡ true → is b p ≡ eqb (state_code b) (state_code a)
other a b p e = ap (eqb (state_code b)) (sym (eqb-true (state_code a) (state_code p.meta.state) e))

pub free-unused : is UNUSED free ≡ true
unfolding free
free-unused = refl

pub used-range : (l : List Process) (s : ℕ) → is UNUSED (get_or l s free) ≡ false → s < length l
used-range [] s e = absurd (clash free-unused e)
used-range (x ∷ l) zero e = zero-lt-suc (length l)
used-range (x ∷ l) (suc s) e = omega (arith, used-range l s e)

-- a used slot that neither waits nor runs, and is not ZOMBIE
pub record Quiet (p : Process) : Type 0 where
  pub used : is UNUSED p ≡ false
  pub ready : is RUNNABLE p ≡ false
  pub busy : is RUNNING p ≡ false
  pub live : is ZOMBIE p ≡ false

pub quiet : (p : Process) → (is ALLOCATED p ≡ true) ⊎ (is SLEEPING p ≡ true) → Quiet p
quiet p (inl e) = record { used = other ALLOCATED UNUSED p e; ready = other ALLOCATED RUNNABLE p e; busy = other ALLOCATED RUNNING p e; live = other ALLOCATED ZOMBIE p e }
quiet p (inr e) = record { used = other SLEEPING UNUSED p e; ready = other SLEEPING RUNNABLE p e; busy = other SLEEPING RUNNING p e; live = other SLEEPING ZOMBIE p e }

-- ---- harts
pub hart-range : (l : List (Option Slot)) (h : ℕ) (x : Slot) → get_or l h None ≡ Some x → h < length l
hart-range [] h x e = absurd (clash {b = known None} (ap known e) refl)
hart-range (y ∷ l) zero x e = zero-lt-suc (length l)
hart-range (y ∷ l) (suc h) x e = omega (arith, hart-range l h x e)

module _ (h s : ℕ) (c : Core) (v : Queued c) (e : hart_at c h ≡ Some (slot s)) where
  pub runs-running : is RUNNING (at c s) ≡ true
  runs-running = ind-true (is RUNNING (at c s)) (omega (
    arith,
    v.harts s,
    tally-one (is_slot s) c.harts None h (hart-range c.harts h (slot s) e) (ap (is_slot s) e ∙ eq-eqb s s refl),
  ))

  pub runs-used : is UNUSED (at c s) ≡ false
  runs-used = other RUNNING UNUSED (at c s) runs-running

  pub runs-range : s < length c.slots
  runs-range = used-range c.slots s runs-used

-- ---- the queue's head
pub head-ready : (s : ℕ) (rest : List ℕ) (c : Core) → Queued c → c.queue ≡ s ∷ rest → is RUNNABLE (at c s) ≡ true
unfolding tally
head-ready s rest c v q = ind-true (is RUNNABLE (at c s)) (omega (arith, v.queue s, rw (eq-eqb s s refl) at (ap (tally (eqb s)) q)))
