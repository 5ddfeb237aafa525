-- What changes of the books leave alone.
use Rattle.std.specs.Prelude.{ℕ, ◌≡◌, refl, Option, Some, None}
use Rattle.promises.specs.Types.{Kin}
use Rattle.rules.specs.Model.{Books, Table, at}
use Rattle.rules.specs.Moves.{leave_group, open_group, join_group, set_init, reap}
use Rattle.promises.specs.Order.Chains.{Birth, of_init, of_system, of_child, of_thread}

pub leave-init : (m : Option ℕ) (b : Books) → (leave_group m b).init ≡ b.init
unfolding leave_group
leave-init None b = refl
leave-init (Some g) b = refl

pub leave-pids : (m : Option ℕ) (b : Books) → (leave_group m b).pids ≡ b.pids
unfolding leave_group
leave-pids None b = refl
leave-pids (Some g) b = refl

pub reap-pids : (s : ℕ) (t : Table) → (reap s t).books.pids ≡ t.books.pids
unfolding reap
reap-pids s t = leave-pids (at t.core s).kin.group t.books

pub birth-pids : {t : Table} {s : ℕ} {k : Kin} {d : Books} → Birth t s k d → d.pids ≡ t.books.pids
unfolding set_init open_group join_group
birth-pids (of_init _ _ _) = refl
birth-pids of_system = refl
birth-pids (of_child _ _ _ _ _) = refl
birth-pids (of_thread _ _ _ _ _ _ _ _) = refl
