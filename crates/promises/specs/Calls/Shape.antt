-- How calls come to refuse, for ANY property of the outcome: shown once of the refusal, and then only of what is granted.
use Rattle.std.specs.Prelude.{ℕ, ◌<◌, ◌≡◌, Bool, Option, Some, None}
use Rattle.std.proofs.Math.Path.{refl}
use Rattle.std.proofs.Math.Bool.{true, false}
use Rattle.std.proofs.Math.Dec.{leb}
use Rattle.std.proofs.Common.{leb-false}
use Rattle.promises.specs.Types.{UNUSED, Refusal, NoSuchHart, HartIdle, TableFull, PidsSpent, NoGroup, Slot}
use Rattle.rules.specs.Sizes.{hart_count, pid_top}
use Rattle.rules.specs.Model.{Table, at, hart_at, is}
use Rattle.rules.specs.Moves.{lowest}
use Rattle.rules.specs.Calls.{Outcome, refuse, refuse_if, found, runner, on_hart, member, in_group, spent, taking}
use Rattle.promises.specs.Order.Chains.{runs}

module _ (P : Outcome → Type 0) where
  pub refuse_if-any : (x : Bool) (r : Refusal) (t : Table) (o : Outcome) → (x ≡ true → P (refuse r t)) → (x ≡ false → P o) → P (refuse_if x r t o)
  unfolding refuse_if
  refuse_if-any true r t o refused k = refused refl
  refuse_if-any false r t o refused k = k refl

  pub found-any : (r : Refusal) (t : Table) (o : Option ℕ) (k : ℕ → Outcome) → (o ≡ None → P (refuse r t)) → ((i : ℕ) → o ≡ Some i → P (k i)) → P (found r t o k)
  unfolding found
  found-any r t None k refused f = refused refl
  found-any r t (Some i) k refused f = f i refl

  pub on_hart-any : (t : Table) (h : ℕ) (k : ℕ → Outcome) → (leb hart_count h ≡ true → P (refuse NoSuchHart t)) → (leb hart_count h ≡ false → hart_at t.core h ≡ None → P (refuse HartIdle t))
      → ((s : ℕ) → leb hart_count h ≡ false → runs t h s → P (k s)) → P (on_hart t h k)
  unfolding on_hart runner
  on_hart-any t h k one two f = refuse_if-any (leb hart_count h) NoSuchHart t _ one (λ l. go l (hart_at t.core h) refl)
    where
      go : leb hart_count h ≡ false → (p : Option Slot) → hart_at t.core h ≡ p → P (runner t p k)
      go l None e = two l e
      go l (Some s) e = f s.0 l e

  pub in_group-any : (t : Table) (s : ℕ) (k : ℕ → Outcome) → ((at t.core s).kin.group ≡ None → P (refuse NoGroup t)) → ((g : ℕ) → (at t.core s).kin.group ≡ Some g → P (k g)) → P (in_group t s k)
  unfolding in_group member
  in_group-any t s k refused f = go (at t.core s).kin.group refl
    where
      go : (m : Option ℕ) → (at t.core s).kin.group ≡ m → P (member t m k)
      go None e = refused e
      go (Some g) e = f g e

  pub taking-any : (t : Table) (k : ℕ → Table → Outcome) → (leb pid_top t.books.pids ≡ true → P (refuse PidsSpent t))
      → (t.books.pids < pid_top → lowest (is UNUSED) t.core.slots ≡ None → P (refuse TableFull (spent t)))
      → ((s : ℕ) → t.books.pids < pid_top → lowest (is UNUSED) t.core.slots ≡ Some s → P (k s (spent t))) → P (taking t k)
  unfolding taking
  taking-any t k six five f =
      refuse_if-any (leb pid_top t.books.pids) PidsSpent t _ six λ e.
      found-any TableFull (spent t) (lowest (is UNUSED) t.core.slots) _ (five (leb-false pid_top t.books.pids e)) λ s o.
      f s (leb-false pid_top t.books.pids e) o
