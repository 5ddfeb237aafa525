-- Every allowed move keeps a table sound, and so does a dispatch and a chain; moves only add to the queue, at its tail.
use Rattle.std.specs.Prelude.{ℕ, zero, suc, ◌<◌, ◌≡◌, refl, Bool, true, false, List, [], ◌∷◌, ◌++◌, Option, None}
use Rattle.std.proofs.Common.{sym, ap, ◌∙◌, subst, append_assoc, append-nil}
use Rattle.promises.specs.Types.{RUNNABLE, Slot}
use Rattle.rules.specs.Sizes.{slot_count, hart_count}
use Rattle.rules.specs.Model.{Core, Table, at, hart_at, is}
use Rattle.rules.specs.Moves.{change, publish, hand, idle, yield_on, sleep_on, zombie_on, publish_if, sleeps_on, wake_one, wake, wake_of, reap}
use Rattle.rules.specs.Calls.{fill, spent}
use Rattle.promises.specs.Order.Wakes.{wake_of-any}
use Rattle.promises.specs.Laws.Scans.{sweep-keeps}
use Rattle.promises.specs.Order.Sound.{Sound}
use Rattle.promises.specs.Order.States.{head-ready}
use Rattle.promises.specs.Order.Chains.{on_core, Move, publishing, yielding, sleeping, dying, marking, adopting, spending, filling, freeing, returning, resizing, Chain, still, and_then, chained}
use Rattle.promises.proofs.Order.Alike.{view, hand-view}
use Rattle.promises.proofs.Order.QueuedKept.{move-queued, hand-queued}
use Rattle.promises.specs.Order.NumberedKept.{view-numbered}
use Rattle.promises.specs.Order.CountedKept.{view-counted}
use Rattle.promises.proofs.Order.TidyKept.{move-tidy, hand-tidy}
use Rattle.promises.proofs.Order.AsleepKept.{move-asleep, hand-asleep}
use Rattle.promises.specs.Order.RaisedKept.{move-raised, hand-raised}
use Rattle.promises.specs.Order.Kept.{Grows}

pub move-sound : {t u : Table} → Sound t → Move t u → Sound u
move-sound w m = record {
  queued = move-queued w.queued m;
  numbered = view-numbered w.numbered (view w.queued m);
  tidy = move-tidy w.queued w.tidy m;
  counted = view-counted w.queued.tall (λ s. (w.tidy s).unused) w.counted (view w.queued m);
  asleep = move-asleep w.queued w.tidy w.asleep m;
  raised = move-raised w.tidy w.raised m;
}

pub chain-sound : {t u : Table} → Sound t → Chain t u → Sound u
chain-sound w still = w
chain-sound w (and_then c m) = move-sound (chain-sound w c) m

-- the head goes to an idle hart
pub hand-sound : (t : Table) (h s : ℕ) (rest : List ℕ) → Sound t → t.core.queue ≡ s ∷ rest → h < hart_count → hart_at t.core h ≡ None → Sound (on_core (hand h s rest) t)
unfolding on_core
hand-sound t h s rest w q r e = record {
  queued = hand-queued h s rest t.core w.queued q (subst (λ (n : ℕ). h < n) (sym w.queued.wide) r) e;
  numbered = view-numbered w.numbered (hand-view t h s rest ready);
  tidy = hand-tidy t.books.init h s rest t.core ready w.tidy;
  counted = view-counted w.queued.tall (λ j. (w.tidy j).unused) w.counted (hand-view t h s rest ready);
  asleep = hand-asleep h s rest t.core w.asleep ready;
  raised = hand-raised h s rest t.core w.raised;
}
  where
    ready : is RUNNABLE (at t.core s) ≡ true
    ready = head-ready s rest t.core w.queued q

-- each table of a row is reached from the one before it
pub chain_steps : (g : ℕ → Table) → Sound (g 0) → ((i : ℕ) → Sound (g i) → Chain (g i) (g (suc i))) → (n : ℕ) → Chain (g 0) (g n)
chain_steps g w k zero = still
chain_steps g w k (suc n) = let c = chain_steps g w k n in chained c (k n (chain-sound w c))

same : (q : List ℕ) → Grows q q
same q = record { new = []; split = sym (append-nil q) }

longer : {q r s : List ℕ} → Grows q r → Grows r s → Grows q s
longer {q} a b = record { new = a.new ++ b.new; split = b.split ∙ ap (λ (l : List ℕ). l ++ b.new) a.split ∙ append_assoc q a.new b.new }

wake-grows : (ch : ℕ) (c : Core) → Grows c.queue (wake ch c).queue
unfolding wake wake_one publish_if publish change
wake-grows ch c = sweep-keeps (λ (d : Core). Grows c.queue d.queue) (wake_one ch) (λ s d w. go s d w (sleeps_on ch (at d s))) slot_count c (same c.queue)
  where
    go : (s : ℕ) (d : Core) → Grows c.queue d.queue → (b : Bool) → Grows c.queue (publish_if b s d).queue
    go s d w true = longer w (record { new = s ∷ []; split = refl })
    go s d w false = w

wake_of-grows : (p : Option Slot) (c : Core) → Grows c.queue (wake_of p c).queue
wake_of-grows p c = wake_of-any (λ (d : Core). Grows c.queue d.queue) c (same c.queue) (λ ch. wake-grows ch c) p

move-grows : {t u : Table} → Move t u → Grows t.core.queue u.core.queue
unfolding on_core yield_on sleep_on zombie_on idle publish change spent fill reap
move-grows (publishing {t} s _) = record { new = s ∷ []; split = refl }
move-grows (yielding {t} h s _) = record { new = s ∷ []; split = refl }
move-grows (sleeping {t} h s ch _ _) = same t.core.queue
move-grows (dying {t} h s x _ _) = same t.core.queue
move-grows (marking {t} s _) = same t.core.queue
move-grows (adopting {t} i _) = wake_of-grows t.books.init _
move-grows (spending {t} _) = same t.core.queue
move-grows (filling {t} s k b d _ _ _) = same t.core.queue
move-grows (freeing {t} s _) = same t.core.queue
move-grows (returning {t} h s _ _) = same t.core.queue
move-grows (resizing {t} _ _ _ _ _ _) = same t.core.queue

pub chain-grows : {t u : Table} → Chain t u → Grows t.core.queue u.core.queue
chain-grows {t} still = same t.core.queue
chain-grows (and_then c m) = longer (chain-grows c) (move-grows m)
