-- Each move keeps what holds of every slot by itself.
use Rattle.std.specs.Prelude.{ℕ, ◌≡◌, Bool, List, length, get_or, set, Option, Some, None}
use Rattle.std.proofs.Math.Path.{refl}
use Rattle.std.proofs.Common.{ap, get_or-set_other, eq-eqb, eqb-true}
use Rattle.std.proofs.Math.Bool.{true, false}
use Rattle.std.proofs.lemmas.List.{length-replicate}
use Rattle.std.proofs.Math.Dec.{eqb}
use Rattle.std.proofs.Math.Seq.{get_or-set_same}
use Rattle.std.proofs.lemmas.Bool.{eqb-false}
use Rattle.promises.specs.Types.{UNUSED, RUNNABLE, SLEEPING, ZOMBIE, Process, Kin, Start, Slot}
use Rattle.rules.specs.Sizes.{slot_count, name_size}
use Rattle.rules.specs.Model.{Core, Books, Table, at, free, taken, is, is_slot, known, slot, to_runnable, to_running, to_sleeping, to_zombie, to_killed, with_parent}
use Rattle.rules.specs.Moves.{change, publish, hand, idle, yield_on, sleep_on, zombie_on, publish_if, sleeps_on, wake_one, wake, wake_of, open_group, join_group, resize, set_init, spend, to_free, reap}
use Rattle.rules.specs.Calls.{fill, spent}
use Rattle.promises.specs.Laws.Bools.{and_left, clash}
use Rattle.promises.specs.Laws.Lists.{all_set}
use Rattle.promises.specs.Order.Books.{leave-init}
use Rattle.promises.specs.Order.Wakes.{wake_of-any}
use Rattle.promises.specs.Laws.Scans.{sweep-keeps}
use Rattle.promises.specs.Order.Sound.{is_in, Queued, First, Tidy}
use Rattle.promises.specs.Order.States.{other, quiet, runs-used}
use Rattle.promises.specs.Order.Chains.{on_core, Vacant, Birth, of_init, of_system, of_child, of_thread, Move, publishing, yielding, sleeping, dying, marking, adopting, spending, filling, freeing, returning, resizing}

abbrev AllTidy : Option Slot → Core → Type 0
AllTidy init c = (s : ℕ) → Tidy init s (at c s)

-- ---- a used slot becomes another with its kin and start, and stays used; init must not become ZOMBIE
tidy-kin : (init : Option Slot) (s : ℕ) (p y : Process) → y.kin ≡ p.kin → y.start ≡ p.start → is UNUSED p ≡ false → is UNUSED y ≡ false
    → (is_slot s init ≡ true → is ZOMBIE y ≡ false) → (p.kin.system ≡ true → is ZOMBIE y ≡ false) → Tidy init s p → Tidy init s y
tidy-kin init s p y k b u v z n w = record {
  unused = λ e. absurd (clash e v);
  name = rw b w.name;
  lone = rw k (λ e. let o = w.lone e in (o.0, o.1, o.2, n e));
  group = rw k (λ _. w.group u);
  after = rw k (λ _. w.after u);
  child = rw k (λ _. w.child u);
  first = λ e. let o = w.first e in record { elder = record { used = v; live = z e; user = rw k o.elder.user }; leads = rw k o.leads; orphan = rw k o.orphan };
}

module _ (init : Option Slot) (c : Core) (w : AllTidy init c) where
  change-tidy : (g : Process → Process) (s : ℕ) → Tidy init s (g (at c s)) → AllTidy init (change g s c)
  unfolding change
  change-tidy g s k = all_set (Tidy init) c.slots s (g (at c s)) free w k

  publish-tidy : (s : ℕ) → is UNUSED (at c s) ≡ false → AllTidy init (publish s c)
  unfolding publish change
  publish-tidy s u = all_set (Tidy init) c.slots s (to_runnable (at c s)) free w (tidy-kin init s (at c s) _ refl refl u refl (λ _. refl) (λ _. refl) (w s))

wake-tidy : (init : Option Slot) (ch : ℕ) (c : Core) → AllTidy init c → AllTidy init (wake ch c)
unfolding wake wake_one publish_if
wake-tidy init ch c w = sweep-keeps (AllTidy init) (wake_one ch) (λ s d v. go s d v (sleeps_on ch (at d s)) refl) slot_count c w
  where
    go : (s : ℕ) (d : Core) → AllTidy init d → (b : Bool) → sleeps_on ch (at d s) ≡ b → AllTidy init (publish_if b s d)
    go s d v true e = publish-tidy init d v s (other SLEEPING UNUSED (at d s) (and_left _ _ e))
    go s d v false e = v

wake_of-tidy : (init p : Option Slot) (c : Core) → AllTidy init c → AllTidy init (wake_of p c)
wake_of-tidy init p c w = wake_of-any (AllTidy init) c w (λ ch. wake-tidy init ch c w) p

-- ---- a slot that has a parent gets init
tidy-adopted : (init : Option Slot) (i : ℕ) (p : Process) → known p.kin.parent ≡ true → Tidy init i p → Tidy init i (with_parent init p)
unfolding free
tidy-adopted init i p k w = record {
  unused = λ e. absurd (clash k (ap (λ (x : Process). known x.kin.parent) (w.unused e)));
  name = w.name;
  lone = λ e. absurd (clash k (ap known (w.lone e).1));
  group = w.group;
  after = w.after;
  child = λ u s _. w.after u s;
  first = λ e. absurd (clash k (ap known (w.first e).orphan));
}

-- ---- a slot that is not init is freed
pub tidy-free : (init : Option Slot) (s : ℕ) → is_slot s init ≡ false → Tidy init s free
unfolding free
tidy-free init s e = record {
  unused = λ _. refl;
  name = length-replicate {A = ℕ} name_size 0;
  lone = λ f. absurd (clash f refl);
  group = λ u. absurd (clash {b = true} refl u);
  after = λ u. absurd (clash {b = true} refl u);
  child = λ u. absurd (clash {b = true} refl u);
  first = λ f. absurd (clash f e);
}

-- a ZOMBIE, or a system thread, is not init
not_first : (init : Option Slot) (s : ℕ) (p : Process) → Tidy init s p → (First p → ⊥) → is_slot s init ≡ false
not_first init s p w f = go (is_slot s init) refl
  where
    go : (b : Bool) → is_slot s init ≡ b → is_slot s init ≡ false
    go true e = absurd (f (w.first e))
    go false e = e

-- ---- births
-- a user slot just taken, whose parent is known unless it is init
tidy-user : (init : Option Slot) (s n : ℕ) (k : Kin) (b : Start) → length b.name ≡ name_size → known init ≡ true → k.system ≡ false → is_in k.group ≡ true
    → (is_slot s init ≡ false → known k.parent ≡ true) → (is_slot s init ≡ true → (k.thread ≡ false) × (k.parent ≡ None)) → Tidy init s (taken n k b)
unfolding taken
tidy-user init s n k b l a y g q f = record {
  unused = λ e. absurd (clash e refl);
  name = l;
  lone = λ e. absurd (clash e y);
  group = λ _ _. g;
  after = λ _ _. a;
  child = λ _ _. q;
  first = λ e. record { elder = record { used = refl; live = refl; user = y }; leads = (f e).0; orphan = (f e).1 };
}

tidy-system : (init : Option Slot) (s n : ℕ) (b : Start) → length b.name ≡ name_size → is_slot s init ≡ false
    → Tidy init s (taken n (record { group = None; parent = None; thread = false; system = true }) b)
unfolding taken
tidy-system init s n b l f = record {
  unused = λ e. absurd (clash e refl);
  name = l;
  lone = λ _. (refl, refl, refl, refl);
  group = λ _ y. absurd (clash {b = true} refl y);
  after = λ _ y. absurd (clash {b = true} refl y);
  child = λ _ y. absurd (clash {b = true} refl y);
  first = λ e. absurd (clash e f);
}

-- before init there are no user slots, so whoever is there does not mind which other slot init takes
tidy-before : (init : Option Slot) (s j : ℕ) (p : Process) → known init ≡ false → eqb j s ≡ false → Tidy init j p → Tidy (Some (slot s)) j p
tidy-before init s j p k n w = record {
  unused = w.unused;
  name = w.name;
  lone = w.lone;
  group = w.group;
  after = λ u y. refl;
  child = λ u y. absurd (clash (w.after u y) k);
  first = λ e. absurd (clash e n);
}

module _ (t : Table) (s n : ℕ) (b : Start) (l : length b.name ≡ name_size) (x : Vacant t s) (w : AllTidy t.books.init t.core) where
  unused-not-init : is_slot s t.books.init ≡ false
  unused-not-init = not_first t.books.init s (at t.core s) (w s) (λ o. clash x.unused o.elder.used)

  -- init moves in: everybody else came before it
  init-tidy : (p : Process) → known t.books.init ≡ false → Tidy (Some (slot s)) s p → AllTidy (Some (slot s)) (fill s p t.core)
  unfolding fill change
  init-tidy p e new j = go (eqb j s) refl
    where
      go : (z : Bool) → eqb j s ≡ z → Tidy (Some (slot s)) j (get_or (set t.core.slots s p) j free)
      go true f = rw (eqb-true j s f, get_or-set_same t.core.slots s p free x.range) new
      go false f = rw (get_or-set_other t.core.slots s j p free (eqb-false j s f)) (tidy-before t.books.init s j (at t.core j) e f (w j))

  birth-tidy : {k : Kin} {d : Books} → Birth t s k d → AllTidy d.init (fill s (taken n k b) t.core)
  unfolding set_init open_group join_group fill
  birth-tidy (of_init e _ _) = init-tidy (taken n _ b) e (tidy-user (Some (slot s)) s n _ b l refl refl refl (λ f. absurd (clash (eq-eqb s s refl) f)) (λ _. (refl, refl)))
  birth-tidy of_system = change-tidy t.books.init t.core w (λ _. taken n _ b) s (tidy-system t.books.init s n b l unused-not-init)
  birth-tidy (of_child a q _ _ _) = change-tidy t.books.init t.core w (λ _. taken n _ b) s
      (tidy-user t.books.init s n _ b l a refl refl (λ _. refl) (λ f. absurd (clash f unused-not-init)))
  birth-tidy (of_thread a g q h _ _ _ _) = change-tidy t.books.init t.core w (λ _. taken n _ b) s
      (tidy-user t.books.init s n _ b l a refl refl (λ _. h) (λ f. absurd (clash f unused-not-init)))

pub hand-tidy : (init : Option Slot) (h s : ℕ) (rest : List ℕ) (c : Core) → is RUNNABLE (at c s) ≡ true → AllTidy init c → AllTidy init (hand h s rest c)
unfolding hand change
hand-tidy init h s rest c e w = change-tidy init c w to_running s (tidy-kin init s (at c s) _ refl refl (other RUNNABLE UNUSED (at c s) e) refl (λ _. refl) (λ _. refl) (w s))

pub move-tidy : {t u : Table} → Queued t.core → AllTidy t.books.init t.core → Move t u → AllTidy u.books.init u.core
unfolding on_core sleep_on zombie_on yield_on idle spent spend reap resize
move-tidy v w (publishing {t} s r) = publish-tidy t.books.init t.core w s (quiet (at t.core s) r).used
move-tidy v w (yielding {t} h s e) = publish-tidy t.books.init (idle h t.core) w s (runs-used h s t.core v e)
move-tidy v w (sleeping {t} h s ch e _) = change-tidy t.books.init (idle h t.core) w (to_sleeping ch) s
    (tidy-kin t.books.init s (at t.core s) _ refl refl (runs-used h s t.core v e) refl (λ _. refl) (λ _. refl) (w s))
move-tidy v w (dying {t} h s x e f) = change-tidy t.books.init (idle h t.core) w (to_zombie x) s
    (tidy-kin t.books.init s (at t.core s) _ refl refl (runs-used h s t.core v e) refl (λ i. absurd (clash i f.mortal)) (λ y. absurd (clash y f.user)) (w s))
move-tidy v w (marking {t} s u) = change-tidy t.books.init t.core w to_killed s
    (tidy-kin t.books.init s (at t.core s) _ refl refl u u (λ i. ((w s).first i).elder.live) (λ y. ((w s).lone y).3) (w s))
move-tidy v w (adopting {t} i k) = wake_of-tidy t.books.init t.books.init _
    (change-tidy t.books.init t.core w (with_parent t.books.init) i (tidy-adopted t.books.init i (at t.core i) k (w i)))
move-tidy v w (spending _) = w
move-tidy v w (filling {t} s k b d x y l) = birth-tidy t s t.books.pids b l x w y
move-tidy v w (freeing {t} s z) = rw (leave-init (at t.core s).kin.group t.books) (change-tidy t.books.init t.core w to_free s
    (tidy-free t.books.init s (not_first t.books.init s (at t.core s) (w s) (λ o. clash z o.elder.live))))
move-tidy v w (returning {t} h s e y) = rw (leave-init (at t.core s).kin.group t.books) (change-tidy t.books.init (idle h t.core) w to_free s
    (tidy-free t.books.init s (not_first t.books.init s (at t.core s) (w s) (λ o. clash y o.elder.user))))
move-tidy v w (resizing _ _ _ _ _ _) = w
