-- The three ways in which a caller that ends stops RUNNING, as chains of moves.
use Rattle.std.specs.Prelude.{ℕ, ◌≡◌, refl, ◌≢◌, Bool, false, List, get_or, Option, Some, None}
use Rattle.std.proofs.Math.Path.{ap}
use Rattle.std.proofs.Common.{◌∙◌, eqb-true}
use Rattle.std.proofs.Math.Bool.{true}
use Rattle.promises.specs.Types.{UNUSED, ZOMBIE, Process, Kin, Slot}
use Rattle.rules.specs.Sizes.{own_channel}
use Rattle.rules.specs.Model.{Table, at, free, is, is_slot, slot}
use Rattle.rules.specs.Moves.{sleep_on, zombie_on, sleeps_on, wake, wake_of, slay, reparent}
use Rattle.rules.specs.Calls.{thread_of, departing}
use Rattle.promises.specs.Laws.Bools.{and_left, clash}
use Rattle.promises.specs.Order.Sound.{Sound, Lives}
use Rattle.promises.specs.Order.Wakes.{wake-calm, wake_of-calm, wake-empties}
use Rattle.promises.specs.Order.Chains.{on_core, runs, joining, Farewell, sleeping, dying, Chain, and_then, chained}
use Rattle.promises.proofs.Order.Kept.{chain-sound}
use Rattle.promises.proofs.Calls.Walks.{wake-chain, wake_of-chain, wake-harts, wake_of-harts, slay-chain, slay-calm, slay-harts, reparent-chain, reparent-steady, reparent-clears}

-- a thread is used
pub thread-used : (t : Table) → Sound t → (i : ℕ) → (at t.core i).kin.thread ≡ true → is UNUSED (at t.core i) ≡ false
unfolding free
thread-used t w i e = go (is UNUSED (at t.core i)) refl
  where
    go : (b : Bool) → is UNUSED (at t.core i) ≡ b → is UNUSED (at t.core i) ≡ false
    go true u = absurd (clash e (ap (λ (p : Process). p.kin.thread) ((w.tidy i).unused u)))
    go false u = u

-- after a wake of a slot's own channel that slot does not sleep on it
wake_of-empties : (p : Option Slot) (t : Table) → Sound t → (q : ℕ) → is_slot q p ≡ true → sleeps_on (own_channel q) (at (wake_of p t.core) q) ≡ false
unfolding wake_of
wake_of-empties None t w q e = absurd (clash {b = false} e refl)
wake_of-empties (Some x) t w q e = rw (eqb-true q x.0 e) (wake-empties (own_channel x.0) t.core w.queued.tall x.0)

module _ (t : Table) (w : Sound t) (h s : ℕ) (e : runs t h s) where
  -- with the harts as they were the caller still runs
  on-hart : {l : List (Option Slot)} → l ≡ t.core.harts → get_or l h None ≡ Some (slot s)
  on-hart f = ap (λ (l : List (Option Slot)). get_or l h None) f ∙ e

  -- a live thread i of the caller's group is marked, and the caller sleeps on it
  pub blocked-chain : (i : ℕ) → (at t.core s).kin.thread ≡ false → thread_of (at t.core s).kin.group (at t.core i) ≡ true → is ZOMBIE (at t.core i) ≡ false
      → Chain t (on_core (λ c. sleep_on h s (own_channel i) (slay i c)) t)
  unfolding on_core thread_of
  blocked-chain i y k z = and_then (slay-chain t i (thread-used t w i thread)) (sleeping h s (own_channel i) (on-hart (slay-harts i t.core)) (joining i apart lives))
    where
      thread : (at t.core i).kin.thread ≡ true
      thread = and_left _ _ k

      apart : s ≢ i
      apart f = clash (rw (← f) at thread) y

      lives : Lives (at (slay i t.core) s) (at (slay i t.core) i)
      lives = record {
        used = (slay-calm i t.core i).used ∙ thread-used t w i thread;
        live = (slay-calm i t.core i).zombie ∙ z;
        kin = rw ((slay-calm i t.core s).kin, (slay-calm i t.core i).kin) k;
      }

  -- the caller's children are handed over, somebody is woken, and the caller is ZOMBIE
  orphans : Table
  orphans = on_core (reparent t.books.init s) t

  hand-over : Chain t orphans
  unfolding orphans
  hand-over = reparent-chain t s w

  handed-over : is_slot s t.books.init ≡ false → (j : ℕ) → is_slot s (at orphans.core j).kin.parent ≡ false
  unfolding orphans on_core
  handed-over n = reparent-clears t.books.init s n t.core w.queued.tall

  same-thread : (k : Kin) → k ≡ (at orphans.core s).kin → k.thread ≡ (at t.core s).kin.thread
  unfolding orphans on_core
  same-thread k f = ap (λ (x : Kin). x.thread) f ∙ (reparent-steady t.books.init s t.core).thread s

  same-system : (k : Kin) → k ≡ (at orphans.core s).kin → k.system ≡ (at t.core s).kin.system
  unfolding orphans on_core
  same-system k f = ap (λ (x : Kin). x.system) f ∙ (reparent-steady t.books.init s t.core).system s

  same-harts : (l : List (Option Slot)) → l ≡ orphans.core.harts → get_or l h None ≡ Some (slot s)
  unfolding orphans on_core
  same-harts l f = on-hart (f ∙ (reparent-steady t.books.init s t.core).harts)

  -- a leader wakes its parent
  pub leader-chain : (x : ℕ) → (at t.core s).kin.thread ≡ false → (at t.core s).kin.system ≡ false → is_slot s t.books.init ≡ false → Chain t (on_core (λ _. zombie_on h s x (departing t s)) t)
  unfolding on_core departing orphans
  leader-chain x y v n = and_then (chained hand-over (wake_of-chain orphans parent sound)) (dying h s x (same-harts _ (wake_of-harts parent orphans.core)) bye)
    where
      parent : Option Slot
      parent = (at orphans.core s).kin.parent

      sound : Sound orphans
      sound = chain-sound w hand-over

      kin : (at (wake_of parent orphans.core) s).kin ≡ (at orphans.core s).kin
      kin = (wake_of-calm parent orphans.core s).kin

      bye : Farewell (on_core (wake_of parent) orphans) s
      bye = record {
        mortal = n;
        user = same-system _ kin ∙ v;
        childless = λ j. rw (wake_of-calm parent orphans.core j).kin (handed-over n j);
        joiners = λ f. absurd (clash f (same-thread _ kin ∙ y));
        parent = λ _ q f. wake_of-empties parent orphans sound q (rw kin at f);
      }

  -- a thread wakes its joiners
  pub thread-chain : (x : ℕ) → (at t.core s).kin.thread ≡ true → (at t.core s).kin.system ≡ false → is_slot s t.books.init ≡ false
      → Chain t (on_core (λ c. zombie_on h s x (wake (own_channel s) (reparent t.books.init s c))) t)
  unfolding on_core orphans
  thread-chain x y v n = and_then (chained hand-over (wake-chain orphans (own_channel s) sound)) (dying h s x (same-harts _ (wake-harts (own_channel s) orphans.core)) bye)
    where
      sound : Sound orphans
      sound = chain-sound w hand-over

      bye : Farewell (on_core (wake (own_channel s)) orphans) s
      bye = record {
        mortal = n;
        childless = λ j. rw (wake-calm (own_channel s) orphans.core j).kin (handed-over n j);
        user = same-system _ (wake-calm (own_channel s) orphans.core s).kin ∙ v;
        joiners = λ _. wake-empties (own_channel s) orphans.core sound.queued.tall;
        parent = λ f. absurd (clash (same-thread _ (wake-calm (own_channel s) orphans.core s).kin ∙ y) f);
      }
