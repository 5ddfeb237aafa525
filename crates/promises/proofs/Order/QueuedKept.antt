-- Each move keeps queue, harts and flags in step with the states.
use Rattle.std.specs.Prelude.{ℕ, ◌+◌, ◌<◌, ◌≡◌, Bool, cond, List, ◌∷◌, length, get_or, set, eqb, Option, Some, None}
use native.Mathlib.Omega.{arith}
use Rattle.std.proofs.Math.Path.{refl, sym}
use Rattle.std.proofs.Common.{ap, ◌∙◌, inr}
use Rattle.std.proofs.Math.Bool.{true, false}
use Rattle.std.proofs.Math.ListN.{length-set}
use Rattle.promises.specs.Types.{UNUSED, RUNNABLE, RUNNING, ZOMBIE, Process, Slot}
use Rattle.rules.specs.Sizes.{slot_count}
use Rattle.rules.specs.Model.{Core, Table, at, hart_at, free, taken, is, is_slot, slot, to_runnable, to_running, to_sleeping, to_zombie, to_killed, with_parent}
use Rattle.rules.specs.Moves.{hand_over, change, publish, hand, idle, yield_on, sleep_on, zombie_on, publish_if, sleeps_on, wake_one, wake, wake_of, to_free, reap}
use Rattle.rules.specs.Calls.{fill, spent}
use Rattle.promises.specs.Laws.Bools.{and_left}
use Rattle.promises.specs.Laws.Counts.{ind, tally, tally-append, tally-set, delta}
use Rattle.promises.specs.Laws.Lists.{all_set, rel-set}
use Rattle.promises.specs.Order.Wakes.{wake_of-any}
use Rattle.promises.specs.Laws.Scans.{sweep-keeps}
use Rattle.promises.specs.Order.Sound.{Queued}
use Rattle.promises.specs.Order.States.{other, used-range, Quiet, quiet, hart-range, runs-running, runs-range, head-ready}
use Rattle.promises.specs.Order.Chains.{on_core, Move, publishing, yielding, sleeping, dying, marking, adopting, spending, filling, freeing, returning, resizing}

abbrev flagged : ℕ → Process → Type 0
flagged s p = p.meta.queued ≡ is RUNNABLE p

-- y may be put in the place of p: neither queue nor harts need change
record Like (p y : Process) : Type 0 where
  ready : is RUNNABLE y ≡ is RUNNABLE p
  busy : is RUNNING y ≡ is RUNNING p
  flag : y.meta.queued ≡ is RUNNABLE y

same_test : (φ : Process → Bool) (l : List Process) (s : ℕ) (y : Process) → φ y ≡ φ (get_or l s free) → (j : ℕ) → φ (get_or (set l s y) j free) ≡ φ (get_or l j free)
same_test φ l s y e = rel-set (λ p q. φ q ≡ φ p) (λ _. refl) l s y free e

change-queued : (f : Process → Process) (s : ℕ) (c : Core) → Queued c → Like (at c s) (f (at c s)) → Queued (change f s c)
unfolding change
change-queued f s c v k = record {
  queue = λ j. v.queue j ∙ ap ind (sym (same_test (is RUNNABLE) c.slots s (f (at c s)) k.ready j));
  harts = λ j. v.harts j ∙ ap ind (sym (same_test (is RUNNING) c.slots s (f (at c s)) k.busy j));
  flag = all_set flagged c.slots s (f (at c s)) free v.flag k.flag;
  wide = v.wide;
  tall = length-set c.slots s (f (at c s)) ∙ v.tall;
}

-- what leaves state and flag alone
stays : (p y : Process) → is RUNNABLE y ≡ is RUNNABLE p → is RUNNING y ≡ is RUNNING p → y.meta.queued ≡ p.meta.queued → p.meta.queued ≡ is RUNNABLE p → Like p y
stays p y a b q f = record { ready = a; busy = b; flag = q ∙ f ∙ sym a }

-- one neither waiting nor running takes the place of another
quieter : (p y : Process) → is RUNNABLE p ≡ false → is RUNNING p ≡ false → is RUNNABLE y ≡ false → is RUNNING y ≡ false → y.meta.queued ≡ false → Like p y
quieter p y a b d e q = record { ready = d ∙ sym a; busy = e ∙ sym b; flag = q ∙ sym d }

pub publish-queued : (s : ℕ) (c : Core) → Queued c → Quiet (at c s) → Queued (publish s c)
unfolding publish change
publish-queued s c v k = record {
  queue = λ j. omega (arith, tally-append (eqb j) c.queue s, v.queue j, delta (is RUNNABLE) c.slots s y free false true range k.ready refl j);
  harts = λ j. omega (arith, v.harts j, delta (is RUNNING) c.slots s y free false false range k.busy refl j);
  flag = all_set flagged c.slots s y free v.flag refl;
  wide = v.wide;
  tall = length-set c.slots s y ∙ v.tall;
}
  where
    y : Process
    y = to_runnable (at c s)

    range : s < length c.slots
    range = used-range c.slots s k.used

pub wake_one-queued : (ch s : ℕ) (c : Core) → Queued c → Queued (wake_one ch s c)
unfolding wake_one publish_if
wake_one-queued ch s c v = go (sleeps_on ch (at c s)) refl
  where
    go : (b : Bool) → sleeps_on ch (at c s) ≡ b → Queued (publish_if b s c)
    go true e = publish-queued s c v (quiet (at c s) (inr (and_left _ _ e)))
    go false e = v

pub wake-queued : (ch : ℕ) (c : Core) → Queued c → Queued (wake ch c)
unfolding wake
wake-queued ch c v = sweep-keeps Queued (wake_one ch) (wake_one-queued ch) slot_count c v

pub wake_of-queued : (p : Option Slot) (c : Core) → Queued c → Queued (wake_of p c)
wake_of-queued p c v = wake_of-any Queued c v (λ ch. wake-queued ch c v) p

-- a slot gets another parent
pub parent-queued : (q : Option Slot) (i : ℕ) (c : Core) → Queued c → Queued (change (with_parent q) i c)
parent-queued q i c v = change-queued (with_parent q) i c v (stays (at c i) (with_parent q (at c i)) refl refl refl (v.flag i))

pub hand_over-queued : (init : Option Slot) (s i : ℕ) (c : Core) → Queued c → Queued (hand_over init s i c)
unfolding hand_over
hand_over-queued init s i c v = go (is_slot s (at c i).kin.parent)
  where
    go : (b : Bool) → Queued (cond b (wake_of init (change (with_parent init) i c)) c)
    go true = wake_of-queued init _ (parent-queued init i c v)
    go false = v

-- the caller s leaves hart h
module _ (h s : ℕ) (c : Core) (v : Queued c) (e : hart_at c h ≡ Some (slot s)) where
  left : (j : ℕ) → tally (is_slot j) (set c.harts h None) + ind (eqb j s) ≡ tally (is_slot j) c.harts
  left j = omega (arith, rw e at (tally-set (is_slot j) c.harts h None None (hart-range c.harts h (slot s) e)))

  not-ready : is RUNNABLE (at c s) ≡ false
  not-ready = other RUNNING RUNNABLE (at c s) (runs-running h s c v e)

  pub yield-queued : Queued (yield_on h s c)
  unfolding yield_on publish change idle
  yield-queued = record {
    queue = λ j. omega (
      arith,
      tally-append (eqb j) c.queue s,
      v.queue j,
      delta (is RUNNABLE) c.slots s (to_runnable (at c s)) free false true (runs-range h s c v e) not-ready refl j,
    );
    harts = λ j. omega (
      arith,
      left j,
      v.harts j,
      delta (is RUNNING) c.slots s (to_runnable (at c s)) free true false (runs-range h s c v e) (runs-running h s c v e) refl j,
    );
    flag = all_set flagged c.slots s (to_runnable (at c s)) free v.flag refl;
    wide = length-set c.harts h None ∙ v.wide;
    tall = length-set c.slots s (to_runnable (at c s)) ∙ v.tall;
  }

  -- .. and neither waits nor runs any more
  leave-queued : (f : Process → Process) → is RUNNABLE (f (at c s)) ≡ false → is RUNNING (f (at c s)) ≡ false → (f (at c s)).meta.queued ≡ false
      → Queued (change f s (idle h c))
  unfolding change idle
  leave-queued f a b q = record {
    queue = λ j. omega (arith, v.queue j, delta (is RUNNABLE) c.slots s (f (at c s)) free false false (runs-range h s c v e) not-ready a j);
    harts = λ j. omega (
      arith,
      left j,
      v.harts j,
      delta (is RUNNING) c.slots s (f (at c s)) free true false (runs-range h s c v e) (runs-running h s c v e) b j,
    );
    flag = all_set flagged c.slots s (f (at c s)) free v.flag (q ∙ sym a);
    wide = length-set c.harts h None ∙ v.wide;
    tall = length-set c.slots s (f (at c s)) ∙ v.tall;
  }

  unflagged : (at c s).meta.queued ≡ false
  unflagged = v.flag s ∙ not-ready

-- the head leaves the queue for an idle hart
pub hand-queued : (h s : ℕ) (rest : List ℕ) (c : Core) → Queued c → c.queue ≡ s ∷ rest → h < length c.harts → hart_at c h ≡ None → Queued (hand h s rest c)
unfolding hand change tally
hand-queued h s rest c v q r e = record {
  queue = λ j. omega (arith, v.queue j, ap (tally (eqb j)) q, delta (is RUNNABLE) c.slots s y free true false range ready refl j);
  harts = λ j. omega (
    arith,
    v.harts j,
    rw e at (tally-set (is_slot j) c.harts h (Some (slot s)) None r),
    delta (is RUNNING) c.slots s y free false true range (other RUNNABLE RUNNING (at c s) ready) refl j,
  );
  flag = all_set flagged c.slots s y free v.flag refl;
  wide = length-set c.harts h (Some (slot s)) ∙ v.wide;
  tall = length-set c.slots s y ∙ v.tall;
}
  where
    y : Process
    y = to_running (at c s)

    ready : is RUNNABLE (at c s) ≡ true
    ready = head-ready s rest c v q

    range : s < length c.slots
    range = used-range c.slots s (other RUNNABLE UNUSED (at c s) ready)

pub move-queued : {t u : Table} → Queued t.core → Move t u → Queued u.core
unfolding on_core sleep_on zombie_on spent fill reap taken free
move-queued v (publishing {t} s r) = publish-queued s t.core v (quiet (at t.core s) r)
move-queued v (yielding {t} h s e) = yield-queued h s t.core v e
move-queued v (sleeping {t} h s ch e _) = leave-queued h s t.core v e (to_sleeping ch) refl refl (unflagged h s t.core v e)
move-queued v (dying {t} h s x e _) = leave-queued h s t.core v e (to_zombie x) refl refl (unflagged h s t.core v e)
move-queued v (marking {t} s _) = change-queued to_killed s t.core v (stays (at t.core s) _ refl refl refl (v.flag s))
move-queued v (adopting {t} i _) =
    wake_of-queued t.books.init _ (parent-queued t.books.init i t.core v)
move-queued v (spending _) = v
move-queued v (filling {t} s k b d w _ _) = change-queued (λ _. taken t.books.pids k b) s t.core v
    (quieter (at t.core s) _ (other UNUSED RUNNABLE (at t.core s) w.unused) (other UNUSED RUNNING (at t.core s) w.unused) refl refl refl)
move-queued v (freeing {t} s z) = change-queued to_free s t.core v
    (quieter (at t.core s) _ (other ZOMBIE RUNNABLE (at t.core s) z) (other ZOMBIE RUNNING (at t.core s) z) refl refl refl)
move-queued v (returning {t} h s e _) = leave-queued h s t.core v e to_free refl refl refl
move-queued v (resizing _ _ _ _ _ _) = v
