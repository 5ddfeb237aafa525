-- How a call ends; what is known of a slot that it takes, and of its caller.
use Rattle.std.specs.Prelude.{ℕ, ◌+◌, ◌≤◌, ◌<◌, ◌≡◌, Bool, cond, List, ◌∷◌, ◌++◌, length, replicate, pos, negsuc, ℤ, leb, Some, None, Ok, Err}
use Rattle.std.proofs.Common.{arith, ap, ◌∙◌, length-append, length-take, get_or-set_same, eq-eqb, eqb-true, leb-true}
use Rattle.std.proofs.Math.Path.{refl}
use Rattle.std.proofs.Math.Bool.{true, false}
use Rattle.std.proofs.lemmas.List.{length-replicate}
use Rattle.promises.specs.Types.{UNUSED, ALLOCATED, RUNNING, ZOMBIE, Kin, Start, Refusal, Answer, Done, Made, Handed, Reaped, Joined, Blocked}
use Rattle.rules.specs.Sizes.{size_top, hart_count, pid_top, name_size}
use Rattle.rules.specs.Answers.{number_of}
use Rattle.rules.specs.Model.{Core, Table, at, hart_at, free, taken, is, is_slot, known, same_group, slot}
use Rattle.rules.specs.Moves.{change, hand, lowest, spend}
use Rattle.rules.specs.Calls.{within, Outcome, gives, moves, refuse, spent, fill, padded, leader_of}
use Rattle.rules.specs.Runs.{Call, dispatch}
use Rattle.promises.specs.Laws.Bools.{clash}
use Rattle.promises.specs.Laws.Scans.{lowest-passes, lowest-range}
use Rattle.promises.specs.Order.Sound.{is_in, Elder, names, Sound}
use Rattle.promises.specs.Order.States.{other, runs-running, runs-used}
use Rattle.promises.specs.Order.Chains.{runs, Vacant, Chain}
use Rattle.promises.specs.Calls.RefusalTable.{spends_pid}

-- ---- how a call ends
-- the pid counter moves by one with a pid that is answered, and else not at all
abbrev pub Fair : Table → Answer → Table → Type 0
Fair t (Ok (Made p)) u = (p.0 ≡ t.books.pids + 1) × (u.books.pids ≡ t.books.pids + 1)
Fair t (Ok (Handed s)) u = ⊥
Fair t (Err r) u = ⊥
Fair t (Ok Done) u = u.books.pids ≡ t.books.pids
Fair t (Ok (Reaped p x)) u = u.books.pids ≡ t.books.pids
Fair t (Ok (Joined x)) u = u.books.pids ≡ t.books.pids
Fair t (Ok Blocked) u = u.books.pids ≡ t.books.pids

pub data Ended (c : Call) (t : Table) : Outcome → Type 0 where
  refused : (r : Refusal) → spends_pid c (number_of r) ≡ false → Ended c t (refuse r t)
  spent_on : (r : Refusal) → spends_pid c (number_of r) ≡ true → t.books.pids < pid_top → Ended c t (refuse r (spent t))
  handed : (h s : ℕ) (rest : List ℕ) → c ≡ dispatch h → t.core.queue ≡ s ∷ rest → h < hart_count → hart_at t.core h ≡ None
      → Ended c t (moves (Ok (Handed (slot s))) (hand h s rest t.core) t)
  granted : (a : Answer) (u : Table) → Fair t a u → Chain t u → Ended c t (gives a u)

-- ---- slots just taken, and sizes
pub within-top : (d : ℤ) (n : ℕ) → within d ≡ Some n → n ≤ size_top
unfolding within
within-top (pos k) n e = go (leb k size_top) refl e
  where
    go : (b : Bool) → leb k size_top ≡ b → cond b (Some k) None ≡ Some n → n ≤ size_top
    go true p q = let z : k ≡ n = cc in rw (← z) (leb-true k size_top p)
    go false p q = let z : ◌≡◌ {A = ℕ} 0 1 = cc in absurd (omega arith)
within-top (negsuc k) n e = let z : ◌≡◌ {A = ℕ} 0 1 = cc in absurd (omega arith)

pub padded-long : (l : List ℕ) → length (padded l) ≡ name_size
unfolding padded
padded-long l = omega (arith, length-take name_size (l ++ replicate name_size 0), length-append l (replicate name_size 0), length-replicate {A = ℕ} name_size 0)

module _ (t : Table) (w : Sound t) where
  pub vacant : (s : ℕ) → lowest (is UNUSED) t.core.slots ≡ Some s → Vacant (spent t) s
  unfolding spent spend
  vacant s o = record {
    range = lowest-range (is UNUSED) t.core.slots free s o;
    unused = lowest-passes (is UNUSED) t.core.slots free s o;
    positive = omega arith;
    new = λ j. omega (arith, w.numbered.high j);
  }

-- a slot filled is there, ALLOCATED
pub filled : (s n : ℕ) (k : Kin) (b : Start) (c : Core) → s < length c.slots → is ALLOCATED (at (fill s (taken n k b) c) s) ≡ true
unfolding fill change taken
filled s n k b c r = ap (is ALLOCATED) (get_or-set_same c.slots s _ free r)

-- ---- what is known of the caller
module _ (t : Table) (w : Sound t) (h s : ℕ) (e : runs t h s) where
  pub used : is UNUSED (at t.core s) ≡ false
  used = runs-used h s t.core w.queued e

  -- a slot with a group is no system thread
  pub user : (g : ℕ) → (at t.core s).kin.group ≡ Some g → (at t.core s).kin.system ≡ false
  user g m = go (at t.core s).kin.system refl
    where
      go : (b : Bool) → (at t.core s).kin.system ≡ b → (at t.core s).kin.system ≡ false
      go true y = absurd (clash (ap is_in m) (ap is_in ((w.tidy s).lone y).0))
      go false y = y

  pub after : (g : ℕ) → (at t.core s).kin.group ≡ Some g → known t.books.init ≡ true
  after g m = (w.tidy s).after used (user g m)

  pub names-own : (g : ℕ) → (at t.core s).kin.group ≡ Some g → names g (at t.core s) ≡ true
  names-own g m = ap (same_group (Some g)) m ∙ eq-eqb g g refl

  -- whoever is to be the parent of the caller's threads is there
  pub leader-known : (g : ℕ) → (at t.core s).kin.group ≡ Some g → known (leader_of (at t.core s) s) ≡ true
  unfolding leader_of
  leader-known g m = go (at t.core s).kin.thread refl
    where
      not-init : (at t.core s).kin.thread ≡ true → (b : Bool) → is_slot s t.books.init ≡ b → is_slot s t.books.init ≡ false
      not-init y true i = absurd (clash y ((w.tidy s).first i).leads)
      not-init y false i = i

      go : (b : Bool) → (at t.core s).kin.thread ≡ b → known (cond b (at t.core s).kin.parent (Some (slot s))) ≡ true
      go true y = (w.tidy s).child used (user g m) (not-init y (is_slot s t.books.init) refl)
      go false y = refl

  -- .. and so is the caller
  pub caller-elder : (g : ℕ) → (at t.core s).kin.group ≡ Some g → Elder (at t.core s)
  caller-elder g m = record { used = used; live = other RUNNING ZOMBIE (at t.core s) (runs-running h s t.core w.queued e); user = user g m }

  pub leader-elder : (g : ℕ) → (at t.core s).kin.group ≡ Some g → (x : ℕ) → is_slot x (leader_of (at t.core s) s) ≡ true → Elder (at t.core x)
  unfolding leader_of
  leader-elder g m x = go (at t.core s).kin.thread
    where
      go : (b : Bool) → is_slot x (cond b (at t.core s).kin.parent (Some (slot s))) ≡ true → Elder (at t.core x)
      go true i = w.raised.elder s x i
      go false i = rw (eqb-true x s i) (caller-elder g m)
