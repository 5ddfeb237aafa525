-- What most moves leave alone of every slot: its pid, its group, and whether it is used. With that, a move is one of five kinds.
use Rattle.std.specs.Prelude.{ℕ, ◌≡◌, refl, Bool, true, false, List, get_or, set, Option}
use Rattle.std.proofs.Common.{sym, ◌∙◌, length-set}
use Rattle.promises.specs.Types.{UNUSED, RUNNABLE, SLEEPING, ZOMBIE, Process, Slot}
use Rattle.rules.specs.Sizes.{slot_count}
use Rattle.rules.specs.Model.{Core, Table, at, free, is, to_running, to_sleeping, to_zombie, to_killed, with_parent}
use Rattle.rules.specs.Moves.{change, publish, hand, idle, yield_on, sleep_on, zombie_on, publish_if, sleeps_on, wake_one, wake, wake_of}
use Rattle.promises.specs.Laws.Bools.{and_left}
use Rattle.promises.specs.Laws.Lists.{rel-set}
use Rattle.promises.specs.Order.Wakes.{wake_of-any}
use Rattle.promises.specs.Laws.Scans.{sweep-keeps}
use Rattle.promises.specs.Order.Sound.{Queued}
use Rattle.promises.specs.Order.States.{other, quiet, runs-used}
use Rattle.promises.specs.Order.Chains.{on_core, Move, publishing, yielding, sleeping, dying, marking, adopting, spending, filling, freeing, returning, resizing}
use Rattle.promises.specs.Order.Alike.{Alike, Alikes, View, fills, frees, resizes, spends, stirs}

same : (p : Process) → Alike p p
same p = record { pid = refl; group = refl; used = refl }

-- a used slot whose pid and group stay, and that stays used
kept : (p y : Process) → y.meta.pid ≡ p.meta.pid → y.kin.group ≡ p.kin.group → is UNUSED y ≡ false → is UNUSED p ≡ false → Alike p y
kept p y a b u v = record { pid = a; group = b; used = u ∙ sym v }

alikes-set : (l : List Process) (s : ℕ) (y : Process) → Alike (get_or l s free) y → Alikes l (set l s y)
alikes-set l s y k = record { all = rel-set Alike same l s y free k; long = length-set l s y }

alikes-then : {l m n : List Process} → Alikes l m → Alikes m n → Alikes l n
alikes-then a b = record {
  all = λ j. record {
    pid = (b.all j).pid ∙ (a.all j).pid;
    group = (b.all j).group ∙ (a.all j).group;
    used = (b.all j).used ∙ (a.all j).used;
  };
  long = b.long ∙ a.long;
}

publish-alikes : (s : ℕ) (c : Core) → is UNUSED (at c s) ≡ false → Alikes c.slots (publish s c).slots
unfolding publish change
publish-alikes s c u = alikes-set c.slots s _ (kept (at c s) _ refl refl refl u)

wake-alikes : (ch : ℕ) (c : Core) → Alikes c.slots (wake ch c).slots
unfolding wake wake_one publish_if
wake-alikes ch c = sweep-keeps (λ (d : Core). Alikes c.slots d.slots) (wake_one ch) (λ s d w. go s d w (sleeps_on ch (at d s)) refl) slot_count c
    (record { all = λ j. same (at c j); long = refl })
  where
    go : (s : ℕ) (d : Core) → Alikes c.slots d.slots → (b : Bool) → sleeps_on ch (at d s) ≡ b → Alikes c.slots (publish_if b s d).slots
    go s d w true e = alikes-then w (publish-alikes s d (other SLEEPING UNUSED (at d s) (and_left _ _ e)))
    go s d w false e = w

-- a slot gets another parent, and somebody is woken
adopt-alikes : (q : Option Slot) (i : ℕ) (c : Core) → Alikes c.slots (wake_of q (change (with_parent q) i c)).slots
unfolding change
adopt-alikes q i c = wake_of-any (λ (d : Core). Alikes c.slots d.slots) (change (with_parent q) i c) first (λ ch. alikes-then first (wake-alikes ch (change (with_parent q) i c))) q
  where
    first : Alikes c.slots (change (with_parent q) i c).slots
    first = alikes-set c.slots i (with_parent q (at c i)) (record { pid = refl; group = refl; used = refl })

pub view : {t u : Table} → Queued t.core → Move t u → View t u
unfolding on_core sleep_on zombie_on yield_on idle change
view v (publishing {t} s r) = stirs _ (publish-alikes s t.core (quiet (at t.core s) r).used)
view v (yielding {t} h s e) = stirs _ (publish-alikes s (idle h t.core) (runs-used h s t.core v e))
view v (sleeping {t} h s ch e _) = stirs _ (alikes-set t.core.slots s _ (kept (at t.core s) (to_sleeping ch (at t.core s)) refl refl refl (runs-used h s t.core v e)))
view v (dying {t} h s x e _) = stirs _ (alikes-set t.core.slots s _ (kept (at t.core s) (to_zombie x (at t.core s)) refl refl refl (runs-used h s t.core v e)))
view v (marking {t} s u) = stirs _ (alikes-set t.core.slots s (to_killed (at t.core s)) (record { pid = refl; group = refl; used = refl }))
view v (adopting {t} i _) = stirs _ (adopt-alikes t.books.init i t.core)
view v (spending r) = spends r
view v (filling s k b d w y _) = fills s k b d w y
view v (freeing {t} s z) = frees s t.core refl (other ZOMBIE UNUSED (at t.core s) z)
view v (returning {t} h s e _) = frees s (idle h t.core) refl (runs-used h s t.core v e)
view v (resizing g n j l r e) = resizes g n j l r e

pub hand-view : (t : Table) (h s : ℕ) (rest : List ℕ) → is RUNNABLE (at t.core s) ≡ true → View t (on_core (hand h s rest) t)
unfolding on_core hand change
hand-view t h s rest e = stirs _ (alikes-set t.core.slots s _ (kept (at t.core s) (to_running (at t.core s)) refl refl refl (other RUNNABLE UNUSED (at t.core s) e)))
