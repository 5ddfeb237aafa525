-- A fresh table is sound, each call keeps it so, and so every table that calls make of a fresh one is sound.
use Rattle.std.specs.Prelude.{ℕ, ◌≡◌, refl, true, false, List, [], ◌∷◌, get_or, replicate, None}
use Rattle.std.proofs.Common.{arith, sym, ap, ◌∙◌}
use Rattle.std.proofs.lemmas.List.{length-replicate}
use Rattle.promises.specs.Types.{UNUSED, SLEEPING}
use Rattle.rules.specs.Sizes.{slot_count, group_count, hart_count, own_channel}
use Rattle.rules.specs.Model.{Table, at, no_group, free, is, is_slot, fresh}
use Rattle.rules.specs.Moves.{sleeps_on}
use Rattle.rules.specs.Calls.{Outcome, gives, moves, refuse}
use Rattle.rules.specs.Runs.{Call, step, run, run_by}
use Rattle.promises.specs.Laws.Lists.{same-all}
use Rattle.promises.specs.Laws.Bools.{and_left, clash}
use Rattle.promises.specs.Laws.Counts.{tally, tally-none}
use Rattle.promises.specs.Order.Sound.{names, Queued, Numbered, Counted, Asleep, Raised, Sound}
use Rattle.promises.specs.Order.States.{other, free-unused}
use Rattle.promises.specs.Order.Chains.{on_core, spending, one}
use Rattle.promises.proofs.Order.TidyKept.{tidy-free}
use Rattle.promises.proofs.Order.Kept.{chain-sound, hand-sound}
use Rattle.promises.specs.Calls.Ended.{Ended, refused, spent_on, handed, granted}
use Rattle.promises.proofs.Calls.Steps.{step-ends}
use Rattle.promises.specs.Reached.{reached}

-- ---- the fresh table
fresh_at : (s : ℕ) → at fresh.core s ≡ free
unfolding fresh
fresh_at s = same-all slot_count free s

fresh-queued : Queued fresh.core
unfolding fresh tally free
fresh-queued = record {
  queue = λ s. rw (same-all slot_count free s);
  harts = λ s. rw (same-all slot_count free s) (tally-none (is_slot s) hart_count None refl);
  flag = λ s. rw (same-all slot_count free s);
  wide = length-replicate hart_count None;
  tall = length-replicate slot_count free;
}

fresh-numbered : Numbered fresh.core fresh.books.pids
unfolding fresh free
fresh-numbered = record {
  low = λ s u. absurd (used s u);
  high = λ s. rw (same-all slot_count free s) (omega arith);
  once = λ i j u _ _. absurd (used i u);
  top = omega arith;
}
  where
    used : (s : ℕ) → is UNUSED (get_or (replicate slot_count free) s free) ≡ false → ⊥
    used s u = clash (ap (is UNUSED) (same-all slot_count free s) ∙ free-unused) u

fresh-counted : Counted fresh.core fresh.books
unfolding fresh free
fresh-counted = record {
  tall = length-replicate group_count no_group;
  count = λ g. rw (same-all group_count no_group g) (sym (tally-none (names g) slot_count free refl));
  empty = λ g _. rw (same-all group_count no_group g);
  top = λ g. rw (same-all group_count no_group g) (omega arith);
}

fresh-asleep : Asleep fresh.core
fresh-asleep = record { waits = λ s j e. absurd (awake (own_channel s) s e); joins = λ s i _ _ e. absurd (awake (own_channel i) s e) }
  where
    awake : (ch s : ℕ) → sleeps_on ch (at fresh.core s) ≡ true → ⊥
    awake ch s e = clash (and_left _ _ e) (ap (is SLEEPING) (fresh_at s) ∙ other UNUSED SLEEPING free free-unused)

fresh-raised : Raised fresh.core
unfolding fresh free
fresh-raised = record { elder = λ s q e. absurd (clash {b = false} (rw (same-all slot_count free s) at e) refl) }

pub fresh-sound : Sound fresh
fresh-sound = record {
  queued = fresh-queued;
  numbered = fresh-numbered;
  tidy = λ s. rw (fresh_at s) (tidy-free fresh.books.init s (unfold fresh in refl));
  counted = fresh-counted;
  asleep = fresh-asleep;
  raised = fresh-raised;
}

-- ---- each call
ended-sound : {c : Call} {t : Table} {o : Outcome} → Sound t → Ended c t o → Sound o.table
unfolding refuse gives moves on_core
ended-sound w (refused _ _) = w
ended-sound w (spent_on _ _ l) = chain-sound w (one (spending l))
ended-sound {t = t} w (handed h s rest _ q r e) = hand-sound t h s rest w q r e
ended-sound w (granted _ _ _ m) = chain-sound w m

pub step-sound : (t : Table) (c : Call) → Sound t → Sound (step t c).table
step-sound t c w = ended-sound w (step-ends t w c)

pub run_sound : (t : Table) (cs : List Call) → Sound t → Sound (run t cs).table
unfolding run run_by
run_sound t [] w = w
run_sound t (c ∷ cs) w = run_sound (step t c).table cs (step-sound t c w)

pub reached-sound : (cs : List Call) → Sound (reached cs)
reached-sound cs = run_sound fresh cs fresh-sound
