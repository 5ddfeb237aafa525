-- What a wake leaves alone, and that nobody sleeps on its channel afterwards.
use Rattle.std.specs.Prelude.{ℕ, ◌<◌, ◌≡◌, ◌⊎◌, Bool, List, length, get_or, set, leb, Option, Some, None}
use Rattle.std.proofs.Common.{arith, sym, ◌∙◌, inl, inr, get_or-set_same, leb-true, leb-false}
use Rattle.std.proofs.Math.Path.{refl, ap}
use Rattle.std.proofs.Math.Bool.{true, false}
use Rattle.std.proofs.Math.ListN.{get_or-eq_default}
use Rattle.promises.specs.Types.{UNUSED, SLEEPING, ZOMBIE, Process, Slot}
use Rattle.rules.specs.Sizes.{slot_count, own_channel}
use Rattle.rules.specs.Model.{Core, at, free, is, to_runnable}
use Rattle.rules.specs.Moves.{change, publish, sweep, publish_if, sleeps_on, wake_one, wake, wake_of}
use Rattle.promises.specs.Laws.Bools.{and_left, clash}
use Rattle.promises.specs.Laws.Lists.{rel-set, set_cases}
use Rattle.promises.specs.Laws.Scans.{sweep-keeps, sweep-each}
use Rattle.promises.specs.Order.States.{other, used-range}

-- to other slots y is as p was, and it sleeps on no channel on which p did not
pub record Calm (p y : Process) : Type 0 where
  pub kin : y.kin ≡ p.kin
  pub used : is UNUSED y ≡ is UNUSED p
  pub zombie : is ZOMBIE y ≡ is ZOMBIE p
  pub sleeps : (ch : ℕ) → sleeps_on ch y ≡ true → sleeps_on ch p ≡ true

pub calm-same : (p : Process) → Calm p p
calm-same p = record { kin = refl; used = refl; zombie = refl; sleeps = λ ch e. e }

pub calm-then : {p q r : Process} → Calm p q → Calm q r → Calm p r
calm-then a b = record {
  kin = b.kin ∙ a.kin;
  used = b.used ∙ a.used;
  zombie = b.zombie ∙ a.zombie;
  sleeps = λ ch e. a.sleeps ch (b.sleeps ch e);
}

-- awake: neither UNUSED nor ZOMBIE before, and RUNNABLE or RUNNING now
pub calm-awake : (p y : Process) → y.kin ≡ p.kin → is UNUSED p ≡ false → is ZOMBIE p ≡ false → is UNUSED y ≡ false → is ZOMBIE y ≡ false → is SLEEPING y ≡ false → Calm p y
calm-awake p y k u z v x n = record { kin = k; used = v ∙ sym u; zombie = x ∙ sym z; sleeps = λ ch e. absurd (clash (and_left _ _ e) n) }

pub calm_set : (l : List Process) (s : ℕ) (y : Process) → Calm (get_or l s free) y → (j : ℕ) → Calm (get_or l j free) (get_or (set l s y) j free)
calm_set l s y k = rel-set Calm calm-same l s y free k

pub publish-calm : (s : ℕ) (c : Core) → is SLEEPING (at c s) ≡ true → (j : ℕ) → Calm (at c j) (at (publish s c) j)
unfolding publish change
publish-calm s c e = calm_set c.slots s (to_runnable (at c s))
    (calm-awake (at c s) _ refl (other SLEEPING UNUSED (at c s) e) (other SLEEPING ZOMBIE (at c s) e) refl refl refl)

pub wake-calm : (ch : ℕ) (c : Core) (j : ℕ) → Calm (at c j) (at (wake ch c) j)
unfolding wake wake_one publish_if
wake-calm ch c = sweep-keeps (λ (d : Core). (j : ℕ) → Calm (at c j) (at d j)) (wake_one ch) (λ s d w. go s d w (sleeps_on ch (at d s)) refl) slot_count c (λ j. calm-same (at c j))
  where
    go : (s : ℕ) (d : Core) → ((j : ℕ) → Calm (at c j) (at d j)) → (b : Bool) → sleeps_on ch (at d s) ≡ b → (j : ℕ) → Calm (at c j) (at (publish_if b s d) j)
    go s d w true e j = calm-then (w j) (publish-calm s d (and_left _ _ e) j)
    go s d w false e j = w j

-- ---- nobody sleeps on the channel any more
free-awake : (ch : ℕ) → sleeps_on ch free ≡ false
unfolding free
free-awake ch = refl

-- one slot: what was awake stays so, and the slot itself is awake
module _ (ch s : ℕ) (c : Core) where
  stays-awake : (j : ℕ) → sleeps_on ch (at c j) ≡ false → sleeps_on ch (at (wake_one ch s c) j) ≡ false
  unfolding wake_one publish_if publish change
  stays-awake j e = go (sleeps_on ch (at c s))
    where
      go : (b : Bool) → sleeps_on ch (at (publish_if b s c) j) ≡ false
      go true = pick (set_cases c.slots s (to_runnable (at c s)) free j)
        where
          pick : ((j ≡ s) × (at (publish s c) j ≡ to_runnable (at c s))) ⊎ (at (publish s c) j ≡ at c j) → sleeps_on ch (at (publish s c) j) ≡ false
          pick (inl f) = ap (sleeps_on ch) f.1
          pick (inr f) = ap (sleeps_on ch) f ∙ e
      go false = e

  now-awake : sleeps_on ch (at (wake_one ch s c) s) ≡ false
  unfolding wake_one publish_if publish change
  now-awake = go (sleeps_on ch (at c s)) refl
    where
      go : (b : Bool) → sleeps_on ch (at c s) ≡ b → sleeps_on ch (at (publish_if b s c) s) ≡ false
      go true e = ap (sleeps_on ch) (get_or-set_same c.slots s (to_runnable (at c s)) free (used-range c.slots s (other SLEEPING UNUSED (at c s) (and_left _ _ e))))
      go false e = e

below-awake : (ch n : ℕ) (c : Core) (j : ℕ) → j < n → sleeps_on ch (at (sweep (wake_one ch) n c) j) ≡ false
below-awake ch = sweep-each (λ j (d : Core). sleeps_on ch (at d j) ≡ false) (wake_one ch) (now-awake ch) (λ s j d. stays-awake ch s d j)

pub wake-empties : (ch : ℕ) (c : Core) → length c.slots ≡ slot_count → (j : ℕ) → sleeps_on ch (at (wake ch c) j) ≡ false
unfolding wake
wake-empties ch c tall j = go (leb slot_count j) refl
  where
    go : (b : Bool) → leb slot_count j ≡ b → sleeps_on ch (at (wake ch c) j) ≡ false
    go true e = off (sleeps_on ch (at (wake ch c) j)) refl
      where
        past : sleeps_on ch (at c j) ≡ false
        past = ap (sleeps_on ch) (get_or-eq_default c.slots free (omega (arith, tall, leb-true slot_count j e))) ∙ free-awake ch

        off : (b : Bool) → sleeps_on ch (at (wake ch c) j) ≡ b → sleeps_on ch (at (wake ch c) j) ≡ false
        off true f = absurd (clash ((wake-calm ch c j).sleeps ch f) past)
        off false f = f
    go false e = below-awake ch slot_count c j (leb-false slot_count j e)

-- what a wake keeps, whoever is woken, the wake of a slot keeps, if there is one
pub wake_of-any : (I : Core → Type 0) (c : Core) → I c → ((ch : ℕ) → I (wake ch c)) → (p : Option Slot) → I (wake_of p c)
unfolding wake_of
wake_of-any I c v k None = v
wake_of-any I c v k (Some s) = k (own_channel s.0)

pub wake_of-calm : (p : Option Slot) (c : Core) (j : ℕ) → Calm (at c j) (at (wake_of p c) j)
wake_of-calm p c j = wake_of-any (λ (d : Core). Calm (at c j) (at d j)) c (calm-same (at c j)) (λ ch. wake-calm ch c j) p
