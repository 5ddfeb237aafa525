-- A slot comes into the queue only from ALLOCATED, RUNNING or SLEEPING: in every move, and every call is made of moves (Calls/Steps.antt).
use Rattle.std.specs.Prelude.{ℕ, ◌≡◌, refl, Bool, true, false, List, get_or, set, Option}
use Rattle.std.proofs.Common.{inl, inr}
use Rattle.promises.specs.Types.{RUNNABLE, SLEEPING, Process, Slot}
use Rattle.rules.specs.Sizes.{slot_count}
use Rattle.rules.specs.Model.{Core, Table, at, free, taken, is, to_runnable, with_parent}
use Rattle.rules.specs.Moves.{change, publish, idle, yield_on, sleep_on, zombie_on, publish_if, sleeps_on, wake_one, wake, wake_of, reap}
use Rattle.rules.specs.Calls.{fill, spent}
use Rattle.promises.specs.Laws.Bools.{and_left, clash}
use Rattle.promises.specs.Laws.Lists.{all_set, rel-set}
use Rattle.promises.specs.Order.Wakes.{wake_of-any}
use Rattle.promises.specs.Laws.Scans.{sweep-keeps}
use Rattle.promises.specs.Order.Sound.{Sound}
use Rattle.promises.specs.Order.States.{runs-running}
use Rattle.promises.specs.Order.Chains.{on_core, Move, publishing, yielding, sleeping, dying, marking, adopting, spending, filling, freeing, returning, resizing}
use Rattle.promises.specs.Published.{From, from_allocated, from_running, from_sleeping, waited}

-- one slot is replaced
came : (l : List Process) (s : ℕ) (y : Process) → (is RUNNABLE y ≡ true → From (get_or l s free)) → (j : ℕ) → is RUNNABLE (get_or (set l s y) j free) ≡ true → From (get_or l j free)
came l s y k j = rel-set (λ p q. is RUNNABLE q ≡ true → From p) (λ p. waited) l s y free k j

-- ---- a wake takes only sleepers
record Woken (p q : Process) : Type 0 where
  ready : is RUNNABLE q ≡ true → From p
  asleep : is SLEEPING q ≡ true → is SLEEPING p ≡ true

woken-same : (p : Process) → Woken p p
woken-same p = record { ready = waited; asleep = λ e. e }

woken-one : (p q : Process) → Woken p q → is SLEEPING q ≡ true → Woken p (to_runnable q)
woken-one p q w e = record { ready = λ _. from_sleeping (w.asleep e); asleep = λ f. absurd (clash {b = false} f refl) }

wake-woken : (ch : ℕ) (c : Core) (j : ℕ) → Woken (at c j) (at (wake ch c) j)
unfolding wake wake_one publish_if publish change
wake-woken ch c = sweep-keeps (λ (d : Core). (j : ℕ) → Woken (at c j) (at d j)) (wake_one ch) (λ s d w. go s d w (sleeps_on ch (at d s)) refl) slot_count c (λ j. woken-same (at c j))
  where
    go : (s : ℕ) (d : Core) → ((j : ℕ) → Woken (at c j) (at d j)) → (b : Bool) → sleeps_on ch (at d s) ≡ b → (j : ℕ) → Woken (at c j) (at (publish_if b s d) j)
    go s d w true e = all_set (λ j. Woken (at c j)) d.slots s (to_runnable (at d s)) free w (woken-one (at c s) (at d s) (w s) (and_left _ _ e))
    go s d w false e = w

wake_of-came : (p : Option Slot) (c : Core) (j : ℕ) → is RUNNABLE (at (wake_of p c) j) ≡ true → From (at c j)
wake_of-came p c j = wake_of-any (λ (d : Core). is RUNNABLE (at d j) ≡ true → From (at c j)) c waited (λ ch. (wake-woken ch c j).ready) p

-- another parent is no other state
from-parent : (q : Option Slot) (p : Process) → From (with_parent q p) → From p
from-parent q p (waited e) = waited e
from-parent q p (from_allocated e) = from_allocated e
from-parent q p (from_running e) = from_running e
from-parent q p (from_sleeping e) = from_sleeping e

adopted-from : (q : Option Slot) (l : List Process) (i j : ℕ) → From (get_or (set l i (with_parent q (get_or l i free))) j free) → From (get_or l j free)
adopted-from q l i j = rel-set (λ p y. From y → From p) (λ p f. f) l i (with_parent q (get_or l i free)) free (from-parent q (get_or l i free)) j

pub published-from : {t u : Table} → Sound t → Move t u → (j : ℕ) → is RUNNABLE (at u.core j) ≡ true → From (at t.core j)
unfolding on_core yield_on sleep_on zombie_on idle publish change spent fill reap taken free
published-from w (publishing {t} s (inl e)) = came t.core.slots s _ (λ _. from_allocated e)
published-from w (publishing {t} s (inr e)) = came t.core.slots s _ (λ _. from_sleeping e)
published-from w (yielding {t} h s e) = came t.core.slots s _ (λ _. from_running (runs-running h s t.core w.queued e))
published-from w (sleeping {t} h s ch _ _) = came t.core.slots s _ (λ f. absurd (clash {b = false} f refl))
published-from w (dying {t} h s x _ _) = came t.core.slots s _ (λ f. absurd (clash {b = false} f refl))
published-from w (marking {t} s _) = came t.core.slots s _ waited
published-from w (adopting {t} i _) = λ j e. adopted-from t.books.init t.core.slots i j (wake_of-came t.books.init _ j e)
published-from w (spending _) = λ j. waited
published-from w (filling {t} s k b d _ _ _) = came t.core.slots s _ (λ f. absurd (clash {b = false} f refl))
published-from w (freeing {t} s _) = came t.core.slots s _ (λ f. absurd (clash {b = false} f refl))
published-from w (returning {t} h s _ _) = came t.core.slots s _ (λ f. absurd (clash {b = false} f refl))
published-from w (resizing _ _ _ _ _ _) = λ j. waited
