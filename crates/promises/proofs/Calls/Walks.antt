-- The parts of calls as chains of moves: wake, kill, reparent, and exit's reaping of ZOMBIE threads.
use Rattle.std.specs.Prelude.{ℕ, zero, suc, ◌+◌, ◌≤◌, ◌≡◌, ◌⊎◌, Bool, cond, length, Option, Some, None}
use Rattle.std.proofs.Common.{arith, ap, ◌∙◌, inl, inr, get_or-set_same}
use Rattle.std.proofs.Math.Path.{refl}
use Rattle.std.proofs.Math.Bool.{true, false}
use Rattle.std.proofs.Math.ListN.{get_or-eq_default}
use Rattle.std.proofs.Math.Seq.{get_or-set_other}
use Rattle.std.proofs.Math.Dec.{leb}
use borrow.Author.Tests.{leb-true, leb-false}
use Rattle.promises.specs.Types.{UNUSED, SLEEPING, ZOMBIE, Kin, Process, Slot}
use Rattle.rules.specs.Sizes.{slot_count}
use Rattle.rules.specs.Model.{Core, Table, at, free, is, is_slot, known, to_killed, with_parent}
use Rattle.rules.specs.Moves.{change, publish, sweep, lowest, publish_if, sleeps_on, wake_one, wake, wake_of, slay, hand_over, reparent, reap}
use Rattle.rules.specs.Calls.{thread_of, reap_if_zombie, reap_first, reap_threads}
use Rattle.promises.specs.Laws.Bools.{and_left, clash}
use Rattle.promises.specs.Laws.Lists.{set_cases, rel-set}
use Rattle.promises.specs.Laws.Counts.{ind, tally, tally-set, tally-le, tally-one}
use Rattle.promises.specs.Order.Books.{leave-init, leave-pids}
use Rattle.promises.specs.Order.Wakes.{wake_of-any, Calm, calm-then, calm_set, publish-calm, wake_of-calm}
use Rattle.promises.specs.Laws.Scans.{lowest-passes, lowest-range, sweep-keeps, sweep-each}
use Rattle.promises.specs.Order.Sound.{Sound}
use Rattle.promises.specs.Order.Chains.{on_core, publishing, marking, adopting, freeing, Chain, still, one, chained}
use Rattle.promises.proofs.Order.Kept.{chain_steps}
use Rattle.promises.specs.Calls.Walks.{Steady, Spared, Settled}

-- ---- wake
publish_if-chain : (t : Table) (s : ℕ) (b : Bool) → (b ≡ true → is SLEEPING (at t.core s) ≡ true) → Chain t (on_core (publish_if b s) t)
unfolding publish_if on_core
publish_if-chain t s true k = one (publishing s (inr (k refl)))
publish_if-chain t s false k = still

pub wake-chain : (t : Table) (ch : ℕ) → Sound t → Chain t (on_core (wake ch) t)
unfolding wake wake_one on_core sweep
wake-chain t ch w = chain_steps (λ n. on_core (sweep (wake_one ch) n) t) w
    (λ i _. publish_if-chain (on_core (sweep (wake_one ch) i) t) i _ (λ e. and_left _ _ e)) slot_count

pub wake_of-chain : (t : Table) (p : Option Slot) → Sound t → Chain t (on_core (wake_of p) t)
unfolding on_core
wake_of-chain t p w = wake_of-any (λ (d : Core). Chain t (record { core = d; books = t.books })) t.core still (λ ch. wake-chain t ch w) p

pub wake-harts : (ch : ℕ) (c : Core) → (wake ch c).harts ≡ c.harts
unfolding wake wake_one publish_if publish change
wake-harts ch c = sweep-keeps (λ (d : Core). d.harts ≡ c.harts) (wake_one ch) (λ s d e. go s d e (sleeps_on ch (at d s))) slot_count c refl
  where
    go : (s : ℕ) (d : Core) → d.harts ≡ c.harts → (b : Bool) → (publish_if b s d).harts ≡ c.harts
    go s d e true = e
    go s d e false = e

pub wake_of-harts : (p : Option Slot) (c : Core) → (wake_of p c).harts ≡ c.harts
wake_of-harts p c = wake_of-any (λ (d : Core). d.harts ≡ c.harts) c refl (λ ch. wake-harts ch c) p

-- ---- kill
-- the mark moves no state
marked : (s : ℕ) (c : Core) → is SLEEPING (at c s) ≡ true → is SLEEPING (at (change to_killed s c) s) ≡ true
unfolding change
marked s c e = rel-set (λ p y. is SLEEPING y ≡ is SLEEPING p) (λ _. refl) c.slots s (to_killed (at c s)) free refl s ∙ e

pub slay-chain : (t : Table) (s : ℕ) → is UNUSED (at t.core s) ≡ false → Chain t (on_core (slay s) t)
unfolding slay on_core
slay-chain t s u = chained (one (marking s u)) (publish_if-chain (on_core (change to_killed s) t) s _ (marked s t.core))

pub slay-calm : (s : ℕ) (c : Core) (j : ℕ) → Calm (at c j) (at (slay s c) j)
unfolding slay publish_if
slay-calm s c j = go (is SLEEPING (at c s)) refl
  where
    mark : Calm (at c j) (at (change to_killed s c) j)
    mark = unfold change in calm_set c.slots s (to_killed (at c s)) (record { kin = refl; used = refl; zombie = refl; sleeps = λ ch e. e }) j

    go : (b : Bool) → is SLEEPING (at c s) ≡ b → Calm (at c j) (at (publish_if b s (change to_killed s c)) j)
    go true e = calm-then mark (publish-calm s (change to_killed s c) (marked s c e) j)
    go false e = mark

pub slay-harts : (s : ℕ) (c : Core) → (slay s c).harts ≡ c.harts
unfolding slay publish_if publish change
slay-harts s c = go (is SLEEPING (at c s))
  where
    go : (b : Bool) → (publish_if b s (change to_killed s c)).harts ≡ c.harts
    go true = refl
    go false = refl

-- ---- reparent
is_known : (s : ℕ) (p : Option Slot) → is_slot s p ≡ true → known p ≡ true
is_known s None e = e
is_known s (Some x) e = refl

hand_over-chain : (t : Table) (s i : ℕ) → Chain t (on_core (hand_over t.books.init s i) t)
unfolding hand_over on_core
hand_over-chain t s i = go (is_slot s (at t.core i).kin.parent) refl
  where
    go : (b : Bool) → is_slot s (at t.core i).kin.parent ≡ b
        → Chain t (record { core = cond b (wake_of t.books.init (change (with_parent t.books.init) i t.core)) t.core; books = t.books })
    go true e = one (adopting i (is_known s (at t.core i).kin.parent e))
    go false e = still

pub reparent-chain : (t : Table) (s : ℕ) → Sound t → Chain t (on_core (reparent t.books.init s) t)
unfolding reparent sweep on_core
reparent-chain t s w = chain_steps (λ n. on_core (sweep (hand_over t.books.init s) n) t) w
    (λ i _. hand_over-chain (on_core (sweep (hand_over t.books.init s) i) t) s i) slot_count

pub reparent-steady : (init : Option Slot) (s : ℕ) (c : Core) → Steady c (reparent init s c)
unfolding reparent hand_over change
reparent-steady init s c = sweep-keeps (Steady c) (hand_over init s) (λ i d w. go i d w (is_slot s (at d i).kin.parent)) slot_count c (record { harts = refl; thread = λ j. refl; system = λ j. refl })
  where
    adopt : (i : ℕ) (d : Core) → Steady c d → Steady c (wake_of init (change (with_parent init) i d))
    adopt i d w = record {
      harts = wake_of-harts init (change (with_parent init) i d) ∙ w.harts;
      thread = λ j. ap (λ (k : Kin). k.thread) (wake_of-calm init (change (with_parent init) i d) j).kin
          ∙ rel-set (λ p y. y.kin.thread ≡ p.kin.thread) (λ _. refl) d.slots i (with_parent init (at d i)) free refl j ∙ w.thread j;
      system = λ j. ap (λ (k : Kin). k.system) (wake_of-calm init (change (with_parent init) i d) j).kin
          ∙ rel-set (λ p y. y.kin.system ≡ p.kin.system) (λ _. refl) d.slots i (with_parent init (at d i)) free refl j ∙ w.system j;
    }

    go : (i : ℕ) (d : Core) → Steady c d → (b : Bool) → Steady c (cond b (wake_of init (change (with_parent init) i d)) d)
    go i d w true = adopt i d w
    go i d w false = w

-- nobody has s as parent any more
reparent-past : (s : ℕ) (c : Core) (j : ℕ) → length c.slots ≤ j → is_slot s (at c j).kin.parent ≡ false
unfolding free
reparent-past s c j r = ap (λ (p : Process). is_slot s p.kin.parent) (get_or-eq_default c.slots free r)

module _ (init : Option Slot) (s : ℕ) (n : is_slot s init ≡ false) where
  hand_over-keeps : (i j : ℕ) (d : Core) → is_slot s (at d j).kin.parent ≡ false → is_slot s (at (hand_over init s i d) j).kin.parent ≡ false
  unfolding hand_over change
  hand_over-keeps i j d e = go (is_slot s (at d i).kin.parent)
    where
      pick : ((j ≡ i) × (at (change (with_parent init) i d) j ≡ with_parent init (at d i))) ⊎ (at (change (with_parent init) i d) j ≡ at d j) → is_slot s (at (change (with_parent init) i d) j).kin.parent ≡ false
      pick (inl f) = rw f.1 n
      pick (inr f) = rw f e

      go : (b : Bool) → is_slot s (at (cond b (wake_of init (change (with_parent init) i d)) d) j).kin.parent ≡ false
      go true = rw (wake_of-calm init (change (with_parent init) i d) j).kin (pick (set_cases d.slots i (with_parent init (at d i)) free j))
      go false = e

  hand_over-clears : (i : ℕ) (d : Core) → is_slot s (at (hand_over init s i d) i).kin.parent ≡ false
  unfolding hand_over change
  hand_over-clears i d = go (is_slot s (at d i).kin.parent) refl
    where
      go : (b : Bool) → is_slot s (at d i).kin.parent ≡ b → is_slot s (at (cond b (wake_of init (change (with_parent init) i d)) d) i).kin.parent ≡ false
      go false e = e
      go true e = rw (wake_of-calm init (change (with_parent init) i d) i).kin (there (leb (length d.slots) i) refl)
        where
          there : (b : Bool) → leb (length d.slots) i ≡ b → is_slot s (at (change (with_parent init) i d) i).kin.parent ≡ false
          there true r = absurd (clash e (reparent-past s d i (leb-true _ i r)))
          there false r = rw (get_or-set_same d.slots i (with_parent init (at d i)) free (leb-false _ i r)) n

  pub reparent-clears : (c : Core) → length c.slots ≡ slot_count → (j : ℕ) → is_slot s (at (reparent init s c) j).kin.parent ≡ false
  unfolding reparent
  reparent-clears c tall j = go (leb slot_count j) refl
    where
      go : (b : Bool) → leb slot_count j ≡ b → is_slot s (at (sweep (hand_over init s) slot_count c) j).kin.parent ≡ false
      go true r = sweep-keeps (λ (d : Core). is_slot s (at d j).kin.parent ≡ false) (hand_over init s) (λ i d. hand_over-keeps i j d) slot_count c (reparent-past s c j (omega (arith, tall, leb-true slot_count j r)))
      go false r = sweep-each (λ i (d : Core). is_slot s (at d i).kin.parent ≡ false) (hand_over init s) hand_over-clears hand_over-keeps slot_count c j (leb-false slot_count j r)

-- ---- exit's loop over the ZOMBIE threads of a group
reap_if_zombie-chain : (t : Table) (o : Option ℕ) → Chain t (reap_if_zombie t o)
unfolding reap_if_zombie
reap_if_zombie-chain t None = still
reap_if_zombie-chain t (Some i) = go (is ZOMBIE (at t.core i)) refl
  where
    go : (b : Bool) → is ZOMBIE (at t.core i) ≡ b → Chain t (cond b (reap i t) t)
    go true e = one (freeing i e)
    go false e = still

pub reap_threads-chain : (m : Option ℕ) (t : Table) → Sound t → Chain t (reap_threads m t)
unfolding reap_threads reap_first sweep
reap_threads-chain m t w = chain_steps (λ n. sweep (λ _. reap_first m) n t) w (λ i _. reap_if_zombie-chain _ _) slot_count

reap_if_zombie-spared : (s : ℕ) (t u : Table) → is ZOMBIE (at t.core s) ≡ false → Spared s t u → (o : Option ℕ) → Spared s t (reap_if_zombie u o)
unfolding reap_if_zombie
reap_if_zombie-spared s t u z w None = w
reap_if_zombie-spared s t u z w (Some i) = go (is ZOMBIE (at u.core i)) refl
  where
    go : (b : Bool) → is ZOMBIE (at u.core i) ≡ b → Spared s t (cond b (reap i u) u)
    go true e = unfold reap change in record {
      harts = w.harts;
      slot = get_or-set_other u.core.slots i s free free (λ f. clash (rw (← f, w.slot) at e) z) ∙ w.slot;
      init = leave-init (at u.core i).kin.group u.books ∙ w.init;
      pids = leave-pids (at u.core i).kin.group u.books ∙ w.pids;
    }
    go false e = w

pub reap_threads-spared : (m : Option ℕ) (s : ℕ) (t : Table) → is ZOMBIE (at t.core s) ≡ false → Spared s t (reap_threads m t)
unfolding reap_threads reap_first
reap_threads-spared m s t z = sweep-keeps (Spared s t) (λ _. reap_first m) (λ _ u w. reap_if_zombie-spared s t u z w _) slot_count t
    (record { harts = refl; slot = refl; init = refl; pids = refl })

threads : Option ℕ → Table → ℕ
threads m t = tally (thread_of m) t.core.slots

free-no-thread : (m : Option ℕ) → thread_of m free ≡ false
unfolding thread_of free
free-no-thread m = refl

reap-fewer : (m : Option ℕ) (t : Table) (i : ℕ) → lowest (thread_of m) t.core.slots ≡ Some i → threads m (reap i t) + 1 ≡ threads m t
unfolding threads reap change
reap-fewer m t i e = omega (
  arith,
  tally-set (thread_of m) t.core.slots i free free (lowest-range (thread_of m) t.core.slots free i e),
  ap ind (lowest-passes (thread_of m) t.core.slots free i e),
  ap ind (free-no-thread m),
)

one-look : (m : Option ℕ) (t : Table) → Settled m (reap_first m t) ⊎ (threads m (reap_first m t) + 1 ≡ threads m t)
unfolding reap_first reap_if_zombie Settled
one-look m t = go (lowest (thread_of m) t.core.slots) refl
  where
    go : (o : Option ℕ) → lowest (thread_of m) t.core.slots ≡ o → Settled m (reap_if_zombie t o) ⊎ (threads m (reap_if_zombie t o) + 1 ≡ threads m t)
    go None e = inl (λ i f. cc)
    go (Some i) e = pick (is ZOMBIE (at t.core i)) refl
      where
        pick : (b : Bool) → is ZOMBIE (at t.core i) ≡ b → Settled m (cond b (reap i t) t) ⊎ (threads m (cond b (reap i t) t) + 1 ≡ threads m t)
        pick true z = inr (reap-fewer m t i e)
        pick false z = inl (λ j f. let k : i ≡ j = cc in rw (← k) z)

-- once settled, a further look changes nothing
pub settled-stays : (m : Option ℕ) (t : Table) → Settled m t → reap_first m t ≡ t
unfolding reap_first reap_if_zombie Settled
settled-stays m t w = go (lowest (thread_of m) t.core.slots) refl
  where
    go : (o : Option ℕ) → lowest (thread_of m) t.core.slots ≡ o → reap_if_zombie t o ≡ t
    go None e = refl
    go (Some i) e = rw (w i e)

looks : (m : Option ℕ) (t : Table) (n : ℕ) → Settled m (sweep (λ _. reap_first m) n t) ⊎ (threads m (sweep (λ _. reap_first m) n t) + n ≤ threads m t)
unfolding sweep
looks m t zero = inr (omega arith)
looks m t (suc n) = go (looks m t n) (one-look m u)
  where
    u : Table
    u = sweep (λ _. reap_first m) n t

    go : Settled m u ⊎ (threads m u + n ≤ threads m t) → Settled m (reap_first m u) ⊎ (threads m (reap_first m u) + 1 ≡ threads m u)
        → Settled m (reap_first m u) ⊎ (threads m (reap_first m u) + suc n ≤ threads m t)
    go (inl w) l = inl (rw (settled-stays m u w) w)
    go (inr h) (inl w) = inl w
    go (inr h) (inr e) = inr (omega arith)

pub reap_threads-settled : (m : Option ℕ) (t : Table) → length t.core.slots ≡ slot_count → Settled m (reap_threads m t)
unfolding reap_threads Settled threads
reap_threads-settled m t tall = go (looks m t slot_count)
  where
    u : Table
    u = sweep (λ _. reap_first m) slot_count t

    go : Settled m u ⊎ (threads m u + slot_count ≤ threads m t) → Settled m u
    go (inl w) i e = w i e
    go (inr h) i e = absurd (omega (
      arith,
      tall,
      tally-le (thread_of m) t.core.slots,
      tally-one (thread_of m) u.core.slots free i (lowest-range (thread_of m) u.core.slots free i e) (lowest-passes (thread_of m) u.core.slots free i e),
    ))
