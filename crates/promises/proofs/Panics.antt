-- What the Rust panics about cannot happen: its tests on the queue, parents and groups, of every sound table, so also half way through a call.
use Rattle.std.specs.Prelude.{ℕ, ◌<◌, ◌≡◌, ◌⊎◌, Bool, List, ◌∷◌, length, get_or, eqb, Option, Some, None}
use Rattle.std.proofs.Math.Path.{refl}
use Rattle.std.proofs.Common.{ap, ◌∙◌, inl, inr, eq-eqb}
use Rattle.std.proofs.Math.Bool.{true, false}
use Rattle.promises.specs.Types.{ProcState, UNUSED, ALLOCATED, RUNNABLE, RUNNING, SLEEPING, ZOMBIE, Process, Slot}
use Rattle.rules.specs.Sizes.{slot_count}
use Rattle.rules.specs.Model.{Table, at, free, is, is_slot, known, slot, state_code}
use Rattle.rules.specs.Moves.{reparent}
use Rattle.rules.specs.Calls.{reap_threads}
use Rattle.rules.specs.Runs.{Call}
use Rattle.promises.specs.Laws.Bools.{clash}
use Rattle.promises.specs.Laws.Counts.{ind, tally}
use Rattle.promises.specs.Order.Sound.{is_in, Sound}
use Rattle.promises.specs.Order.States.{other, head-ready, runs-running, runs-used}
use Rattle.promises.specs.Order.Room.{queue-fits, queue-room}
use Rattle.promises.specs.Order.Chains.{on_core, runs}
use Rattle.promises.proofs.Order.Kept.{chain-sound}
use Rattle.promises.specs.Order.CountedKept.{Empty, group-had}
use Rattle.promises.specs.Calls.Walks.{Spared}
use Rattle.promises.proofs.Calls.Walks.{reparent-chain, reparent-steady, reap_threads-chain, reap_threads-spared}
use Rattle.promises.specs.Reached.{reached}
use Rattle.promises.proofs.Reached.{reached-sound}
use Rattle.promises.specs.Panics.{NoPanic}

module _ (t : Table) (w : Sound t) where
  -- "process is already on the run queue", "cannot enqueue process": a slot in a state from which it may be published is unmarked, not queued, and finds room
  publishable : (s : ℕ) → is UNUSED (at t.core s) ≡ false → is RUNNABLE (at t.core s) ≡ false
      → ((at t.core s).meta.queued ≡ false) × (tally (eqb s) t.core.queue ≡ 0) × (length t.core.queue < slot_count)
  publishable s u r = (w.queued.flag s ∙ r, w.queued.queue s ∙ ap ind r, queue-room t.core w.queued s u r)

  publish-allowed : (s : ℕ) (a : ProcState) → is a (at t.core s) ≡ true → a ≡ ALLOCATED ⊎ (a ≡ RUNNING ⊎ a ≡ SLEEPING)
      → ((at t.core s).meta.queued ≡ false) × (tally (eqb s) t.core.queue ≡ 0) × (length t.core.queue < slot_count)
  publish-allowed s a e k = publishable s (other a UNUSED (at t.core s) e ∙ not_in UNUSED k refl refl refl) (other a RUNNABLE (at t.core s) e ∙ not_in RUNNABLE k refl refl refl)
    where
      not_in : (b : ProcState) → a ≡ ALLOCATED ⊎ (a ≡ RUNNING ⊎ a ≡ SLEEPING) → eqb (state_code b) 1 ≡ false → eqb (state_code b) 3 ≡ false → eqb (state_code b) 4 ≡ false
          → eqb (state_code b) (state_code a) ≡ false
      not_in b (inl f) x y z = rw f x
      not_in b (inr (inl f)) x y z = rw f y
      not_in b (inr (inr f)) x y z = rw f z

  -- "run queue entry is not marked queued", "queued process has state"
  head-marked : (s : ℕ) (rest : List ℕ) → t.core.queue ≡ s ∷ rest → (is RUNNABLE (at t.core s) ≡ true) × ((at t.core s).meta.queued ≡ true)
  head-marked s rest q = let r = head-ready s rest t.core w.queued q in (r, w.queued.flag s ∙ r)

  -- a new group can always be found for a slot to be had
  group-found : (s : ℕ) → s < length t.core.slots → is UNUSED (at t.core s) ≡ true → Empty t.books
  unfolding free
  group-found s r u = group-had t.core t.books s w.counted w.queued.tall r (ap (λ (p : Process). p.kin.group) ((w.tidy s).unused u))

  -- there is an init to hand a child over to
  heir-known : (i : ℕ) → known (at t.core i).kin.parent ≡ true → known t.books.init ≡ true
  unfolding free
  heir-known i k = go (is UNUSED (at t.core i)) refl (at t.core i).kin.system refl
    where
      go : (b : Bool) → is UNUSED (at t.core i) ≡ b → (y : Bool) → (at t.core i).kin.system ≡ y → known t.books.init ≡ true
      go true u y f = absurd (clash k (ap (λ (p : Process). known p.kin.parent) ((w.tidy i).unused u)))
      go false u true f = absurd (clash k (ap known ((w.tidy i).lone f).1))
      go false u false f = (w.tidy i).after u f

  -- a ZOMBIE is no system thread
  zombie-user : (s : ℕ) → is ZOMBIE (at t.core s) ≡ true → (at t.core s).kin.system ≡ false
  zombie-user s z = go (at t.core s).kin.system refl
    where
      go : (b : Bool) → (at t.core s).kin.system ≡ b → b ≡ false
      go true y = absurd (clash z ((w.tidy s).lone y).3)
      go false y = refl

  -- a parent is a used slot and no system thread
  parent-grouped : (s q : ℕ) → (at t.core s).kin.parent ≡ Some (slot q) → is_in (at t.core q).kin.group ≡ true
  parent-grouped s q e = let p = w.raised.elder s q (ap (is_slot q) e ∙ eq-eqb q q refl) in (w.tidy q).group p.used p.user

  -- "Fail to find parent process": where exit reads the parent, after the threads are reaped and the children handed over, there is one
  exit-has-parent : (h s : ℕ) → runs t h s → (at t.core s).kin.system ≡ false → is_slot s t.books.init ≡ false
      → let u = reap_threads (at t.core s).kin.group t in known (at (reparent u.books.init s u.core) s).kin.parent ≡ true
  exit-has-parent h s e y n = (v-sound.tidy s).child (runs-used h s v.core v-sound.queued there) system (spared-init ∙ n)
    where
      m : Option ℕ
      m = (at t.core s).kin.group

      u : Table
      u = reap_threads m t

      v : Table
      v = record { core = reparent u.books.init s u.core; books = u.books }

      u-sound : Sound u
      u-sound = chain-sound w (reap_threads-chain m t w)

      v-sound : Sound v
      v-sound = unfold on_core in chain-sound u-sound (reparent-chain u s u-sound)

      spared : Spared s t u
      spared = reap_threads-spared m s t (other RUNNING ZOMBIE (at t.core s) (runs-running h s t.core w.queued e))

      spared-init : is_slot s u.books.init ≡ is_slot s t.books.init
      spared-init = ap (is_slot s) spared.init

      there : runs v h s
      there = ap (λ (l : List (Option Slot)). get_or l h None) ((reparent-steady u.books.init s u.core).harts ∙ spared.harts) ∙ e

      system : (at v.core s).kin.system ≡ false
      system = (reparent-steady u.books.init s u.core).system s ∙ ap (λ (p : Process). p.kin.system) spared.slot ∙ y

pub sound-no-panic : (t : Table) → Sound t → NoPanic t
sound-no-panic t w = record {
  fits = queue-fits t.core w.queued;
  publishes = publish-allowed t w;
  dispatches = head-marked t w;
  groups = group-found t w;
  heirs = heir-known t w;
  parents = exit-has-parent t w;
  spaces = λ s. (w.tidy s).group;
  zombies = zombie-user t w;
  elders = parent-grouped t w;
  marked = w.queued.flag;
  alone = λ s y. ((w.tidy s).lone y).0;
}

pub no-panic : (cs : List Call) → NoPanic (reached cs)
no-panic cs = sound-no-panic (reached cs) (reached-sound cs)
