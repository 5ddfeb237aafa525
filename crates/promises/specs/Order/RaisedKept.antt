-- Each move keeps that whoever has a parent has one that is there.
use Rattle.std.specs.Prelude.{ℕ, ◌≡◌, ◌≢◌, ◌⊎◌, Bool, List, get_or, set, Option, None}
use Rattle.std.proofs.Math.Path.{refl}
use Rattle.std.proofs.Common.{ap, ◌∙◌, inl, inr, get_or-set_other, eqb-true}
use Rattle.std.proofs.Math.Bool.{true, false}
use Rattle.promises.specs.Types.{UNUSED, ZOMBIE, Process, Kin, Start, Slot}
use Rattle.rules.specs.Model.{Core, Books, Table, at, free, taken, is, is_slot, to_runnable, to_running, to_sleeping, to_zombie, to_killed, with_parent}
use Rattle.rules.specs.Moves.{change, publish, hand, idle, yield_on, sleep_on, zombie_on, reap}
use Rattle.rules.specs.Calls.{fill, spent}
use Rattle.promises.specs.Laws.Bools.{clash}
use Rattle.promises.specs.Laws.Lists.{set_cases, rel-set}
use Rattle.promises.specs.Order.Sound.{Elder, Raised, Tidy}
use Rattle.promises.specs.Order.Wakes.{Calm, wake_of-calm}
use Rattle.promises.specs.Order.Chains.{on_core, Birth, of_init, of_system, of_child, of_thread, Move, publishing, yielding, sleeping, dying, marking, adopting, spending, filling, freeing, returning, resizing}

-- ---- as a child sees it, nothing happened: y has the parent that p had, and may be one as p might
record Like (p y : Process) : Type 0 where
  parent : y.kin.parent ≡ p.kin.parent
  elder : Elder p → Elder y

like-same : (p : Process) → Like p p
like-same p = record { parent = refl; elder = λ o. o }

like-raised : (c d : Core) → ((j : ℕ) → Like (at c j) (at d j)) → Raised c → Raised d
like-raised c d k w = record { elder = λ s q e. (k q).elder (w.elder s q (rw (← (k s).parent) e)) }

-- one slot changes but for its kin, and it stays used and no ZOMBIE, where it was so
kin-raised : (g : Process → Process) (s : ℕ) (c : Core) → (g (at c s)).kin ≡ (at c s).kin → (is ZOMBIE (at c s) ≡ false → is ZOMBIE (g (at c s)) ≡ false) → (is UNUSED (at c s) ≡ false → is UNUSED (g (at c s)) ≡ false)
    → Raised c → Raised (change g s c)
unfolding change
kin-raised g s c k z u w = like-raised c (change g s c)
    (rel-set Like like-same c.slots s (g (at c s)) free (record { parent = rw k; elder = λ o. record { used = u o.used; live = z o.live; user = rw k o.user } })) w

publish-raised : (s : ℕ) (c : Core) → Raised c → Raised (publish s c)
unfolding publish
publish-raised s c w = let r = kin-raised to_runnable s c refl (λ _. refl) (λ _. refl) w in record { elder = r.elder }

calm-raised : (c d : Core) → ((j : ℕ) → Calm (at c j) (at d j)) → Raised c → Raised d
calm-raised c d k = like-raised c d λ j. record {
  parent = ap (λ (x : Kin). x.parent) (k j).kin;
  elder = λ o. record { used = (k j).used ∙ o.used; live = (k j).zombie ∙ o.live; user = ap (λ (x : Kin). x.system) (k j).kin ∙ o.user };
}

-- ---- a slot that is nobody's parent becomes y, whose parent is there
set-raised : (c d : Core) (s : ℕ) (y : Process) → d.slots ≡ set c.slots s y → ((j : ℕ) → is_slot s (at c j).kin.parent ≡ false)
    → ((q : ℕ) → is_slot q y.kin.parent ≡ true → (q ≢ s) × Elder (at c q)) → Raised c → Raised d
set-raised c d s y e alone k w = record { elder = λ j q f. go j q f (set_cases c.slots s y free j) }
  where
    kept : (q : ℕ) → q ≢ s → Elder (at c q) → Elder (at d q)
    kept q n o = rw (e, get_or-set_other c.slots s q y free n) o

    go : (j q : ℕ) → is_slot q (at d j).kin.parent ≡ true → ((j ≡ s) × (get_or (set c.slots s y) j free ≡ y)) ⊎ (get_or (set c.slots s y) j free ≡ at c j) → Elder (at d q)
    go j q f (inl g) = let o = k q (rw (e, g.1) at f) in kept q o.0 o.1
    go j q f (inr g) = let i = rw (e, g) at f in kept q (λ z. clash (rw z at i) (alone j)) (w.elder j q i)

free-raised : (c d : Core) (s : ℕ) → d.slots ≡ set c.slots s free → (Elder (at c s) → ⊥) → Raised c → Raised d
unfolding free
free-raised c d s e no-elder w = set-raised c d s free e (λ j. go j (is_slot s (at c j).kin.parent) refl) (λ q f. absurd (clash {b = false} f refl)) w
  where
    go : (j : ℕ) (b : Bool) → is_slot s (at c j).kin.parent ≡ b → b ≡ false
    go j true f = absurd (no-elder (w.elder j s f))
    go j false f = refl

-- ---- births: the slot was UNUSED, so nobody's parent
module _ (t : Table) (s n : ℕ) (b : Start) (u : is UNUSED (at t.core s) ≡ true) (w : Raised t.core) where
  elder-apart : (q : ℕ) → Elder (at t.core q) → q ≢ s
  elder-apart q o e = clash u (rw e at o.used)

  born-raised : (k : Kin) → ((q : ℕ) → is_slot q k.parent ≡ true → Elder (at t.core q)) → Raised (fill s (taken n k b) t.core)
  unfolding fill change taken
  born-raised k o = set-raised t.core (fill s (taken n k b) t.core) s (taken n k b) refl (λ j. go j (is_slot s (at t.core j).kin.parent) refl)
      (λ q f. (elder-apart q (o q f), o q f)) w
    where
      go : (j : ℕ) (x : Bool) → is_slot s (at t.core j).kin.parent ≡ x → x ≡ false
      go j true f = absurd (elder-apart s (w.elder j s f) refl)
      go j false f = refl

  nobody : (q : ℕ) → is_slot q None ≡ true → Elder (at t.core q)
  nobody q f = absurd (clash {b = false} f refl)

  birth-raised : {k : Kin} {d : Books} → Birth t s k d → Raised (fill s (taken n k b) t.core)
  birth-raised (of_init _ _ _) = born-raised _ nobody
  birth-raised of_system = born-raised _ nobody
  birth-raised (of_child _ q o _ _) = born-raised _ (λ x f. let z : x ≡ q = eqb-true x q f in rw z o)
  birth-raised (of_thread _ _ q _ o _ _ _) = born-raised _ o

-- ---- a slot gets init as its parent
adopt-raised : (init : Option Slot) (i : ℕ) (c : Core) → ((q : ℕ) → is_slot q init ≡ true → Elder (at c q)) → Raised c → Raised (change (with_parent init) i c)
unfolding change
adopt-raised init i c o w = record { elder = λ s q e. kept q (go s q e (set_cases c.slots i (with_parent init (at c i)) free s)) }
  where
    kept : (q : ℕ) → Elder (at c q) → Elder (get_or (set c.slots i (with_parent init (at c i))) q free)
    kept q = rel-set (λ (p y : Process). Elder p → Elder y) (λ _ z. z) c.slots i (with_parent init (at c i)) free
        (λ z. record { used = z.used; live = z.live; user = z.user }) q

    go : (s q : ℕ) → is_slot q (get_or (set c.slots i (with_parent init (at c i))) s free).kin.parent ≡ true
        → ((s ≡ i) × (get_or (set c.slots i (with_parent init (at c i))) s free ≡ with_parent init (at c i))) ⊎ (get_or (set c.slots i (with_parent init (at c i))) s free ≡ at c s) → Elder (at c q)
    go s q e (inl f) = o q (rw f.1 at e)
    go s q e (inr f) = w.elder s q (rw f at e)

pub hand-raised : (h s : ℕ) (rest : List ℕ) (c : Core) → Raised c → Raised (hand h s rest c)
unfolding hand
hand-raised h s rest c w = let r = kin-raised to_running s c refl (λ _. refl) (λ _. refl) w in record { elder = r.elder }

pub move-raised : {t u : Table} → ((s : ℕ) → Tidy t.books.init s (at t.core s)) → Raised t.core → Move t u → Raised u.core
unfolding on_core sleep_on zombie_on yield_on idle spent reap change
move-raised y w (publishing {t} s _) = publish-raised s t.core w
move-raised y w (yielding {t} h s _) = publish-raised s (idle h t.core) (record { elder = w.elder })
move-raised y w (sleeping {t} h s ch _ _) = kin-raised (to_sleeping ch) s (idle h t.core) refl (λ _. refl) (λ _. refl) (record { elder = w.elder })
move-raised y w (dying {t} h s x e f) = set-raised t.core _ s (to_zombie x (at t.core s)) refl f.childless
    (λ q i. ((λ z. clash (rw z at i) (f.childless s)), w.elder s q i)) w
move-raised y w (marking {t} s _) = kin-raised to_killed s t.core refl (λ z. z) (λ z. z) w
move-raised y w (adopting {t} i _) = calm-raised (change (with_parent t.books.init) i t.core) _ (wake_of-calm t.books.init _)
    (adopt-raised t.books.init i t.core (λ q f. ((y q).first f).elder) w)
move-raised y w (spending _) = w
move-raised y w (filling {t} s k b d x z _) = birth-raised t s t.books.pids b x.unused w z
move-raised y w (freeing {t} s z) = free-raised t.core _ s refl (λ o. clash z o.live) w
move-raised y w (returning {t} h s _ z) = free-raised t.core _ s refl (λ o. clash z o.user) w
move-raised y w (resizing _ _ _ _ _ _) = w
