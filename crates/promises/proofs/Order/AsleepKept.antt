-- Each move keeps the sleepers' two rules: no ZOMBIE child under a waiting parent, and joiners sleep on live threads of their own.
use Rattle.std.specs.Prelude.{ℕ, ◌≤◌, ◌<◌, ◌≡◌, ◌≢◌, Bool, ◌&&◌, List, length, get_or, set, eqb, Option, Some, None}
use Rattle.std.proofs.Common.{arith, sym, ap, ◌∙◌, length-set, get_or-set_same, get_or-set_other, eqb-true}
use Rattle.std.proofs.Math.Path.{refl}
use Rattle.std.proofs.Math.Bool.{true, false, not}
use Rattle.std.proofs.lemmas.Bool.{eqb-false}
use Rattle.promises.specs.Types.{UNUSED, RUNNABLE, RUNNING, SLEEPING, ZOMBIE, ProcMeta, Process, Kin, Slot}
use Rattle.rules.specs.Sizes.{slot_count, own_channel, first_device}
use Rattle.rules.specs.Model.{Core, Table, at, free, taken, is, is_slot, state_code, to_runnable, to_running, to_sleeping, to_zombie, to_killed, with_parent}
use Rattle.rules.specs.Moves.{change, publish, hand, idle, yield_on, sleep_on, zombie_on, sleeps_on, wake, wake_of, reap}
use Rattle.rules.specs.Calls.{child_of, zombie_child_of, thread_of, fill, spent}
use Rattle.promises.specs.Laws.Bools.{and_left, and_right, and_both, clash}
use Rattle.promises.specs.Laws.Lists.{rel-set}
use Rattle.promises.specs.Order.Sound.{Queued, Tidy, Lives, Asleep}
use Rattle.promises.specs.Order.States.{other, used-range, quiet, runs-running, runs-range}
use Rattle.promises.specs.Order.Wakes.{Calm, calm-awake, calm_set, wake-calm, wake-empties}
use Rattle.promises.specs.Order.Chains.{on_core, runs, Bed, device, waiting, joining, Farewell, Move, publishing, yielding, sleeping, dying, marking, adopting, spending, filling, freeing, returning, resizing}

-- ---- tests on a slot
not-zombie-child : (s : ℕ) (p : Process) → is ZOMBIE p ≡ false → zombie_child_of s p ≡ false
unfolding zombie_child_of
not-zombie-child s p e = rw e

zombie-child-same : (s : ℕ) (p y : Process) → is ZOMBIE y ≡ is ZOMBIE p → y.kin ≡ p.kin → zombie_child_of s y ≡ zombie_child_of s p
unfolding zombie_child_of child_of
zombie-child-same s p y z k = rw (z, k)

lives-same : (p q x y : Process) → x.kin.group ≡ p.kin.group → y.kin.thread ≡ q.kin.thread → y.kin.group ≡ q.kin.group
    → is UNUSED y ≡ is UNUSED q → is ZOMBIE y ≡ is ZOMBIE q → Lives p q → Lives x y
unfolding thread_of
lives-same p q x y a b k u z l = record { used = u ∙ l.used; live = z ∙ l.live; kin = rw (a, b, k) l.kin }

-- ---- the rules, but for the waiting slot q, which is to be woken
record AsleepBut (q : Option Slot) (c : Core) : Type 0 where
  waits : (s j : ℕ) → is_slot s q ≡ false → sleeps_on (own_channel s) (at c s) ≡ true → zombie_child_of s (at c j) ≡ false
  joins : (s i : ℕ) → i < slot_count → s ≢ i → sleeps_on (own_channel i) (at c s) ≡ true → Lives (at c s) (at c i)

asleep-calm : (q : Option Slot) (c d : Core) → ((j : ℕ) → Calm (at c j) (at d j)) → AsleepBut q c → AsleepBut q d
asleep-calm q c d k w = record {
  waits = λ s j n e. zombie-child-same s (at c j) (at d j) (k j).zombie (k j).kin ∙ w.waits s j n ((k s).sleeps (own_channel s) e);
  joins = λ s i r n e. lives-same (at c s) (at c i) (at d s) (at d i) (ap (λ (x : Kin). x.group) (k s).kin) (ap (λ (x : Kin). x.thread) (k i).kin)
      (ap (λ (x : Kin). x.group) (k i).kin) (k i).used (k i).zombie (w.joins s i r n ((k s).sleeps (own_channel i) e));
}

all_but : (q : Option Slot) (c : Core) → Asleep c → AsleepBut q c
all_but q c w = record { waits = λ s j _. w.waits s j; joins = w.joins }

calm-kept : (c d : Core) → ((j : ℕ) → Calm (at c j) (at d j)) → Asleep c → Asleep d
calm-kept c d k w = let v = asleep-calm None c d k (all_but None c w) in record { waits = λ s j. v.waits s j refl; joins = v.joins }

-- ---- slot s of c is y in d, and every other is as it was
record Replaced (c d : Core) (s : ℕ) (y : Process) : Type 0 where
  here : at d s ≡ y
  there : (j : ℕ) → j ≢ s → at d j ≡ at c j

replaced : (c d : Core) (s : ℕ) (y : Process) → d.slots ≡ set c.slots s y → s < length c.slots → Replaced c d s y
replaced c d s y e r = record {
  here = ap (λ (l : List Process). get_or l s free) e ∙ get_or-set_same c.slots s y free r;
  there = λ j n. ap (λ (l : List Process). get_or l j free) e ∙ get_or-set_other c.slots s j y free n;
}

-- what is to be shown of the new slot with each other, and of it alone; all else follows from before
module _ (c d : Core) (s : ℕ) (y : Process) (r : Replaced c d s y) (w : Asleep c)
    (parent : (j : ℕ) → sleeps_on (own_channel s) y ≡ true → zombie_child_of s (at d j) ≡ false)
    (child : (a : ℕ) → a ≢ s → sleeps_on (own_channel a) (at c a) ≡ true → zombie_child_of a y ≡ false)
    (joiner : (i : ℕ) → i < slot_count → s ≢ i → sleeps_on (own_channel i) y ≡ true → Lives y (at d i))
    (joined : (a : ℕ) → s < slot_count → a ≢ s → sleeps_on (own_channel s) (at c a) ≡ true → Lives (at c a) y) where
  replace-kept : Asleep d
  replace-kept = record {
    waits = λ a j e. waits a j (eqb a s) refl (eqb j s) refl e;
    joins = λ a i l n e. joins a i l n (eqb a s) refl (eqb i s) refl e;
  }
    where
      waits : (a j : ℕ) (b : Bool) → eqb a s ≡ b → (x : Bool) → eqb j s ≡ x → sleeps_on (own_channel a) (at d a) ≡ true → zombie_child_of a (at d j) ≡ false
      waits a j true p x q e = rw (eqb-true a s p) (parent j (rw (eqb-true a s p, r.here) at e))
      waits a j false p true q e = let n = eqb-false a s p in
          rw (eqb-true j s q, r.here) (child a n (rw (r.there a n) at e))
      waits a j false p false q e = let n = eqb-false a s p in let m = eqb-false j s q in
          rw (r.there j m) (w.waits a j (rw (r.there a n) at e))

      joins : (a i : ℕ) → i < slot_count → a ≢ i → (b : Bool) → eqb a s ≡ b → (x : Bool) → eqb i s ≡ x → sleeps_on (own_channel i) (at d a) ≡ true → Lives (at d a) (at d i)
      joins a i l n true p x q e = let o = eqb-true a s p in
          rw (o, r.here) (joiner i l (λ f. n (o ∙ f)) (rw (o, r.here) at e))
      joins a i l n false p true q e = let m = eqb-false a s p in let o = eqb-true i s q in
          rw (r.there a m, o, r.here) (joined a (rw o at l) m (rw (r.there a m, o) at e))
      joins a i l n false p false q e = let m = eqb-false a s p in let k = eqb-false i s q in
          rw (r.there a m, r.there i k) (w.joins a i l n (rw (r.there a m) at e))

-- the new slot neither sleeps nor is ZOMBIE, and the old one was no live thread
fresh_kept : (c d : Core) (s : ℕ) (y : Process) → Replaced c d s y → is SLEEPING y ≡ false → is ZOMBIE y ≡ false → ((q : Process) → Lives q (at c s) → ⊥) → Asleep c → Asleep d
fresh_kept c d s y r a z o w = replace-kept c d s y r w
    (λ j e. absurd (clash (and_left _ _ e) a))
    (λ b _ _. not-zombie-child b y z)
    (λ i _ _ e. absurd (clash (and_left _ _ e) a))
    (λ b l n e. absurd (o (at c b) (w.joins b s l n e)))

-- ---- the caller lies down
own-channel : {a b : ℕ} → own_channel a ≡ own_channel b → a ≡ b
own-channel e = omega arith

below-devices : (i ch : ℕ) → i < slot_count → first_device ≤ ch → ch ≢ own_channel i
unfolding first_device
below-devices i ch l d e = omega arith

module _ (t : Table) (h s : ℕ) (v : Queued t.core) (w : Asleep t.core) (e : runs t h s) where
  small : s < slot_count
  small = omega (arith, runs-range h s t.core v e, v.tall)

  running : is RUNNING (at t.core s) ≡ true
  running = runs-running h s t.core v e

  -- the caller's slot after it stopped RUNNING
  left : (f : Process → Process) → Replaced t.core (change f s (idle h t.core)) s (f (at t.core s))
  unfolding change idle
  left f = replaced t.core (change f s (idle h t.core)) s (f (at t.core s)) refl (runs-range h s t.core v e)

  abbrev abed : ℕ → Core
  abed ch = change (to_sleeping ch) s (idle h t.core)

  -- who is no ZOMBIE child before is none afterwards
  was : (ch j : ℕ) → zombie_child_of s (at t.core j) ≡ false → zombie_child_of s (at (abed ch) j) ≡ false
  was ch j f = go (eqb j s) refl
    where
      go : (b : Bool) → eqb j s ≡ b → zombie_child_of s (at (abed ch) j) ≡ false
      go true p = rw (eqb-true j s p, (left (to_sleeping ch)).here) (not-zombie-child s _ refl)
      go false p = rw ((left (to_sleeping ch)).there j (eqb-false j s p)) f

  bed-parent : {ch : ℕ} → Bed t s ch → (j : ℕ) → eqb ch (own_channel s) ≡ true → zombie_child_of s (at (abed ch) j) ≡ false
  bed-parent (device ch d) j f = absurd (below-devices s ch small d (eqb-true ch (own_channel s) f))
  bed-parent (waiting none) j f = was (own_channel s) j (none j)
  bed-parent (joining i n _) j f = absurd (n (sym (own-channel (eqb-true (own_channel i) (own_channel s) f))))

  bed-joiner : {ch : ℕ} → Bed t s ch → (i : ℕ) → i < slot_count → s ≢ i → eqb ch (own_channel i) ≡ true → Lives (to_sleeping ch (at t.core s)) (at (abed ch) i)
  bed-joiner (device ch d) i l n f = absurd (below-devices i ch l d (eqb-true ch (own_channel i) f))
  bed-joiner (waiting _) i l n f = absurd (n (own-channel (eqb-true (own_channel s) (own_channel i) f)))
  bed-joiner (joining k n x) i l m f =
      rw ((left (to_sleeping (own_channel k))).there i (λ g. m (sym g)))
      (lives-same (at t.core s) (at t.core i) _ (at t.core i) refl refl refl refl refl (rw (own-channel (eqb-true (own_channel k) (own_channel i) f)) at x))

  bed-kept : (ch : ℕ) → Bed t s ch → Asleep (abed ch)
  bed-kept ch bed = replace-kept t.core (abed ch) s (to_sleeping ch (at t.core s)) (left (to_sleeping ch)) w
      (λ j f. bed-parent bed j f)
      (λ b _ _. not-zombie-child b _ refl)
      (λ i l n f. bed-joiner bed i l n f)
      (λ a l n f. lives-same (at t.core a) (at t.core s) (at t.core a) _ refl refl refl
      (sym (other RUNNING UNUSED (at t.core s) running)) (sym (other RUNNING ZOMBIE (at t.core s) running)) (w.joins a s l n f))

  -- ---- the caller becomes ZOMBIE: its parent is awake if it is no thread, its joiners are if it is one
  orphaned : Farewell t s → (a : ℕ) → sleeps_on (own_channel a) (at t.core a) ≡ true → child_of a (at t.core s) ≡ false
  unfolding child_of
  orphaned f a e = go (is_slot a (at t.core s).kin.parent) refl (at t.core s).kin.thread refl
    where
      go : (b : Bool) → is_slot a (at t.core s).kin.parent ≡ b → (x : Bool) → (at t.core s).kin.thread ≡ x → (b && not x) ≡ false
      go false p x q = refl
      go true p true q = refl
      go true p false q = absurd (clash e (f.parent q a p))

  death-kept : (x : ℕ) → Farewell t s → Asleep (change (to_zombie x) s (idle h t.core))
  unfolding zombie_child_of thread_of
  death-kept x f = replace-kept t.core (change (to_zombie x) s (idle h t.core)) s (to_zombie x (at t.core s)) (left (to_zombie x)) w
      (λ j g. absurd (clash {b = false} g refl))
      (λ a _ g. unfold child_of in orphaned f a g)
      (λ i _ _ g. absurd (clash {b = false} g refl))
      (λ a l n g. absurd (clash g (f.joiners (and_left _ _ (w.joins a s l n g).kin) a)))

-- ---- a slot gets init for its parent, and init is woken
-- y is p but for its parent, which is q if it is another
record Reparented (q : Option Slot) (p y : Process) : Type 0 where
  meta : y.meta ≡ p.meta
  group : y.kin.group ≡ p.kin.group
  thread : y.kin.thread ≡ p.kin.thread
  parent : (s : ℕ) → is_slot s q ≡ false → is_slot s y.kin.parent ≡ true → is_slot s p.kin.parent ≡ true

adopted : (q : Option Slot) (i : ℕ) (c : Core) → Asleep c → AsleepBut q (change (with_parent q) i c)
unfolding change zombie_child_of child_of
adopted q i c w = record {
  waits = λ s j n e. waits s j n e (zombie_child_of s (at d j)) refl;
  joins = λ s k r n e. lives-same (at c s) (at c k) (at d s) (at d k) (each s).group (each k).thread (each k).group
      (ap (λ (m : ProcMeta). eqb 0 (state_code m.state)) (each k).meta) (ap (λ (m : ProcMeta). eqb 5 (state_code m.state)) (each k).meta) (w.joins s k r n (asleep s (own_channel k) e));
}
  where
    d : Core
    d = change (with_parent q) i c

    each : (j : ℕ) → Reparented q (at c j) (at d j)
    each = rel-set (Reparented q) (λ p. record { meta = refl; group = refl; thread = refl; parent = λ s _ e. e }) c.slots i (with_parent q (at c i)) free
        (record { meta = refl; group = refl; thread = refl; parent = λ s n e. absurd (clash e n) })

    asleep : (s ch : ℕ) → sleeps_on ch (at d s) ≡ true → sleeps_on ch (at c s) ≡ true
    asleep s ch e = rw (each s).meta at e

    waits : (s j : ℕ) → is_slot s q ≡ false → sleeps_on (own_channel s) (at d s) ≡ true → (b : Bool) → zombie_child_of s (at d j) ≡ b → zombie_child_of s (at d j) ≡ false
    waits s j n e false f = f
    waits s j n e true f =
        let z : is ZOMBIE (at d j) ≡ true = and_left _ _ f in
        let g : child_of s (at d j) ≡ true = and_right (is ZOMBIE (at d j)) (child_of s (at d j)) f in
        let k : is_slot s (at c j).kin.parent ≡ true = (each j).parent s n (and_left _ _ g) in
        let h : not (at d j).kin.thread ≡ true = and_right (is_slot s (at d j).kin.parent) (not (at d j).kin.thread) g in
        absurd (clash (and_both _ _ (rw (each j).meta at z) (and_both _ _ k (rw (each j).thread at h))) (w.waits s j (asleep s (own_channel s) e)))

adoption-kept : (q : Option Slot) (i : ℕ) (c : Core) → length c.slots ≡ slot_count → Asleep c → Asleep (wake_of q (change (with_parent q) i c))
unfolding wake_of change
adoption-kept None i c tall w = let v = adopted None i c w in record { waits = λ s j. v.waits s j refl; joins = v.joins }
adoption-kept (Some x) i c tall w = record { waits = λ s j. waits s j (is_slot s (Some x)) refl; joins = v.joins }
  where
    d : Core
    d = change (with_parent (Some x)) i c

    v : AsleepBut (Some x) (wake (own_channel x.0) d)
    v = asleep-calm (Some x) d (wake (own_channel x.0) d) (wake-calm (own_channel x.0) d) (adopted (Some x) i c w)

    waits : (s j : ℕ) (b : Bool) → is_slot s (Some x) ≡ b → sleeps_on (own_channel s) (at (wake (own_channel x.0) d) s) ≡ true → zombie_child_of s (at (wake (own_channel x.0) d) j) ≡ false
    waits s j true p e = absurd (clash e (rw (eqb-true s x.0 p) (wake-empties (own_channel x.0) d (length-set c.slots i (with_parent (Some x) (at c i)) ∙ tall) x.0)))
    waits s j false p e = v.waits s j p e

-- ---- every move
lives-thread : (p q : Process) → Lives p q → q.kin.thread ≡ true
unfolding thread_of
lives-thread p q l = and_left _ _ l.kin

-- slot s is awake now
awake-kept : (c d : Core) (s : ℕ) (y : Process) → d.slots ≡ set c.slots s y → y.kin ≡ (at c s).kin → is UNUSED (at c s) ≡ false → is ZOMBIE (at c s) ≡ false
    → is UNUSED y ≡ false → is ZOMBIE y ≡ false → is SLEEPING y ≡ false → Asleep c → Asleep d
awake-kept c d s y e k u z v x n w = calm-kept c d (rw e (calm_set c.slots s y (calm-awake (at c s) y k u z v x n))) w

pub hand-asleep : (h s : ℕ) (rest : List ℕ) (c : Core) → Asleep c → is RUNNABLE (at c s) ≡ true → Asleep (hand h s rest c)
unfolding hand change
hand-asleep h s rest c w e = awake-kept c _ s (to_running (at c s)) refl refl (other RUNNABLE UNUSED (at c s) e) (other RUNNABLE ZOMBIE (at c s) e) refl refl refl w

pub move-asleep : {t u : Table} → Queued t.core → ((s : ℕ) → Tidy t.books.init s (at t.core s)) → Asleep t.core → Move t u → Asleep u.core
unfolding on_core sleep_on zombie_on yield_on idle spent fill reap taken free publish change
move-asleep v o w (publishing {t} s r) = let q = quiet (at t.core s) r in awake-kept t.core _ s (to_runnable (at t.core s)) refl refl q.used q.live refl refl refl w
move-asleep v o w (yielding {t} h s e) = let r = runs-running h s t.core v e in
    awake-kept t.core _ s (to_runnable (at t.core s)) refl refl (other RUNNING UNUSED (at t.core s) r) (other RUNNING ZOMBIE (at t.core s) r) refl refl refl w
move-asleep v o w (sleeping {t} h s ch e b) = bed-kept t h s v w e ch b
move-asleep v o w (dying {t} h s x e f) = death-kept t h s v w e x f
move-asleep v o w (marking {t} s _) =
    calm-kept t.core _ (calm_set t.core.slots s (to_killed (at t.core s)) (record { kin = refl; used = refl; zombie = refl; sleeps = λ ch e. e })) w
move-asleep v o w (adopting {t} i _) = adoption-kept t.books.init i t.core v.tall w
move-asleep v o w (spending _) = w
move-asleep v o w (filling {t} s k b d x _ _) =
    fresh_kept t.core _ s (taken t.books.pids k b) (replaced t.core _ s _ refl x.range) refl refl (λ q l. clash x.unused l.used) w
move-asleep v o w (freeing {t} s z) =
    fresh_kept t.core _ s free (replaced t.core _ s free refl (used-range t.core.slots s (other ZOMBIE UNUSED (at t.core s) z))) refl refl (λ q l. clash z l.live) w
move-asleep v o w (returning {t} h s e y) =
    fresh_kept t.core _ s free (replaced t.core _ s free refl (runs-range h s t.core v e)) refl refl (λ q l. clash (lives-thread q _ l) ((o s).lone y).2) w
move-asleep v o w (resizing _ _ _ _ _ _) = w
