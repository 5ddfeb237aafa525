-- Pids, groups and unused slots, over every run: a pid is never given again, a count is the number of slots, an UNUSED slot is a freed one.
use Rattle.std.specs.Prelude.{ℕ, zero, suc, ◌+◌, ◌≤◌, ◌<◌, ◌≡◌, refl, not, List, [], ◌∷◌, ◌++◌, length, get_or, Option, Some, None, Ok, Err}
use Rattle.std.proofs.Common.{arith, not-suc-le-zero, le_of_suc-le-suc, eqb-true}
use Rattle.std.proofs.lemmas.Bool.{not-true}
use Rattle.promises.specs.Types.{UNUSED, NoneSuch, Answer, Done, Made, Handed, Reaped, Joined, Blocked}
use Rattle.rules.specs.Model.{Table, at, free, is, fresh, pid}
use Rattle.rules.specs.Moves.{lowest, slay, spend}
use Rattle.rules.specs.Calls.{Outcome, gives, moves, refuse, spent, found, has_pid, killed}
use Rattle.rules.specs.Runs.{Call, kill, step, run, run_by}
use Rattle.promises.specs.Laws.Bools.{and_left, and_right}
use Rattle.promises.specs.Laws.Scans.{lowest-passes}
use Rattle.promises.specs.Order.Sound.{Sound}
use Rattle.promises.specs.Calls.Ended.{Fair, Ended, refused, spent_on, handed, granted}
use Rattle.promises.proofs.Calls.Steps.{step-ends}
use Rattle.promises.specs.Reached.{reached}
use Rattle.promises.proofs.Reached.{step-sound, reached-sound, fresh-sound}
use Rattle.promises.specs.Ledger.{Ledger, given_by, pids_given}

pub ledger : (cs : List Call) → Ledger (reached cs)
ledger cs = let w = reached-sound cs in record {
  pid-low = w.numbered.low;
  pid-high = w.numbered.high;
  pid-once = w.numbered.once;
  counter-top = w.numbered.top;
  group-count = w.counted.count;
  group_empty = w.counted.empty;
  group-top = w.counted.top;
  unused-free = λ s. (w.tidy s).unused;
}

-- pids given while the counter goes from n to m: each above those before it
record Rises (n : ℕ) (l : List ℕ) (m : ℕ) : Type 0 where
  above : (i : ℕ) → i < length l → n < get_or l i 0
  rising : (i k : ℕ) → i < k → k < length l → get_or l i 0 < get_or l k 0
  grown : n ≤ m

rises-none : (n m : ℕ) → n ≤ m → Rises n [] m
rises-none n m r = record { above = λ i l. absurd (not-suc-le-zero l); rising = λ i k _ l. absurd (not-suc-le-zero l); grown = r }

-- the counter may be higher than it was, and one more pid may come first
rises-more : (n m k : ℕ) (l : List ℕ) → n ≤ m → Rises m l k → Rises n l k
rises-more n m k l r w = record { above = λ i q. omega (arith, w.above i q); rising = w.rising; grown = omega (arith, w.grown) }

rises-cons : (n p k : ℕ) (l : List ℕ) → n < p → Rises p l k → Rises n (p ∷ l) k
rises-cons n p k l r w = record { above = above; rising = rising; grown = omega (arith, w.grown) }
  where
    above : (i : ℕ) → i < suc (length l) → n < get_or (p ∷ l) i 0
    above zero q = r
    above (suc i) q = omega (arith, w.above i (le_of_suc-le-suc q))

    rising : (i j : ℕ) → i < j → j < suc (length l) → get_or (p ∷ l) i 0 < get_or (p ∷ l) j 0
    rising i zero a q = absurd (not-suc-le-zero a)
    rising zero (suc j) a q = w.above j (le_of_suc-le-suc q)
    rising (suc i) (suc j) a q = w.rising i j (le_of_suc-le-suc a) (le_of_suc-le-suc q)

fair-rises : (t u : Table) (a : Answer) (l : List ℕ) (k : ℕ) → Fair t a u → Rises u.books.pids l k → Rises t.books.pids (given_by a ++ l) k
fair-rises t u (Ok Done) l k f w = rw (← f) w
fair-rises t u (Ok (Made p)) l k f w = rises-cons t.books.pids p.0 k l (omega (arith, f.0)) (rw (f.0, ← f.1) w)
fair-rises t u (Ok (Handed s)) l k f w = absurd f
fair-rises t u (Ok (Reaped p x)) l k f w = rw (← f) w
fair-rises t u (Ok (Joined x)) l k f w = rw (← f) w
fair-rises t u (Ok Blocked) l k f w = rw (← f) w
fair-rises t u (Err r) l k f w = absurd f

ended-rises : {c : Call} {t : Table} {o : Outcome} (l : List ℕ) (k : ℕ) → Ended c t o → Rises o.table.books.pids l k → Rises t.books.pids (given_by o.answer ++ l) k
unfolding refuse gives moves spent spend
ended-rises l k (refused _ _) w = w
ended-rises {t = t} l k (spent_on _ _ _) w = rises-more t.books.pids (t.books.pids + 1) k l (omega arith) w
ended-rises l k (handed _ _ _ _ _ _ _) w = w
ended-rises {t = t} l k (granted a u f _) w = fair-rises t u a l k f w

run-rises : (t : Table) (cs : List Call) → Sound t → Rises t.books.pids (pids_given (run t cs).answers) (run t cs).table.books.pids
unfolding run run_by pids_given
run-rises t [] w = rises-none t.books.pids t.books.pids (omega arith)
run-rises t (c ∷ cs) w = ended-rises _ _ (step-ends t w c) (run-rises (step t c).table cs (step-sound t c w))

-- of two pids that a run from a fresh table gives, the later one is the larger: none is given twice
pub pid-never-again : (cs : List Call) (i k : ℕ) → i < k → k < length (pids_given (run fresh cs).answers) → get_or (pids_given (run fresh cs).answers) i 0 < get_or (pids_given (run fresh cs).answers) k 0
pid-never-again cs = (run-rises fresh cs fresh-sound).rising

-- a pid given after any calls is larger than the pid of any slot then
pub pid-new : (before after : List Call) (s i : ℕ) → i < length (pids_given (run (reached before) after).answers)
    → (at (reached before).core s).meta.pid.0 < get_or (pids_given (run (reached before) after).answers) i 0
pid-new before after s i l = let w = reached-sound before in omega (arith, w.numbered.high s, (run-rises (reached before) after w).above i l)

-- ---- kill 0 gives 10 always
pub kill-nobody : (cs : List Call) → step (reached cs) (kill (pid 0)) ≡ refuse NoneSuch (reached cs)
unfolding step killed found has_pid
kill-nobody cs = go (λ i. moves (Ok Done) (slay i t.core) t) (lowest (has_pid (pid 0)) t.core.slots) refl
  where
    t : Table
    t = reached cs

    go : (k : ℕ → Outcome) (o : Option ℕ) → lowest (has_pid (pid 0)) t.core.slots ≡ o → found NoneSuch t o k ≡ refuse NoneSuch t
    go k None e = refl
    go k (Some i) e =
        let h = lowest-passes (has_pid (pid 0)) t.core.slots free i e in
        absurd (omega (arith, (reached-sound cs).numbered.low i (not-true _ (and_left _ _ h)), eqb-true (at t.core i).meta.pid.0 0 (and_right (not (is UNUSED (at t.core i))) _ h)))
