-- Thread exit by a slot that is no thread is the same as exit.
use Rattle.std.specs.Prelude.{ℕ, ◌≡◌, refl, Bool, true, false, ◌||◌}
use Rattle.rules.specs.Model.{Table, at}
use Rattle.rules.specs.Calls.{on_hart, runner, refuse_if, stays, exited, exited_by, thread_exited, thread_exited_by}
use Rattle.rules.specs.Runs.{thread_exit, exit, step}
use Rattle.promises.specs.Order.Chains.{runs}

or-false : (b : Bool) → b || false ≡ b
or-false true = refl
or-false false = refl

pub exit-by-leader : (t : Table) (h x s : ℕ) → (at t.core s).kin.thread ≡ false → exited_by t h x s ≡ thread_exited_by t h x s
unfolding exited_by thread_exited_by refuse_if
exit-by-leader t h x s y = rw (y, or-false (stays t s)) refl

pub thread-exit-is-exit : (t : Table) (h x s : ℕ) → runs t h s → (at t.core s).kin.thread ≡ false → step t (thread_exit h x) ≡ step t (exit h x)
unfolding step exited thread_exited on_hart runner
thread-exit-is-exit t h x s e y = rw (e, exit-by-leader t h x s y) refl
