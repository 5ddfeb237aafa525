use Rattle.std.specs.Prelude.{Ok}
use Rattle.std.proofs.Common.{arith, refl, ap, ℕ}
use Rattle.taking.proofs.Facts.{given}
use Rattle.words.specs.Effects.{on_books}
use Rattle.promises.specs.Order.Chains.{on_core}
use Rattle.rules.specs.declared.Start.{Start}
use Rattle.rules.specs.declared.Grant.TheVariants.{Made}
use Rattle.rules.specs.Sizes.{address_top, page_size}
use Rattle.rules.specs.Model.{pid}
use Rattle.rules.specs.Moves.{change}
use Rattle.rules.specs.Calls.{fill, publish_new, made_in, leader_of, thread_in, threaded_in}
use Rattle.forks.proofs.thread_in.Goals as goal

pub overflow_add-start : goal.overflow_add-start
unfolding address_top page_size
overflow_add-start c =
    omega (arith, c.requires.5)

pub join_group-requires : goal.join_group-requires
unfolding fill change on_core
join_group-requires c =
    (c.requires.1, rw c.fill.ensures c.requires.4)

pub make_runnable-requires : goal.make_runnable-requires
unfolding fill change on_core on_books
make_runnable-requires c =
    (c.requires.2, rw (c.join_group.ensures, c.fill.ensures) c.requires.3)

pub returns : goal.returns
unfolding threaded_in made_in publish_new thread_in leader_of on_core on_books page_size
returns c =
    given (ap (λ (n : ℕ). Ok (Made (pid n))) c.pids-n.ensures)
    (rw (c.make_runnable.ensures, c.join_group.ensures, c.fill.ensures, c.pids-n.ensures, c.leader_of.ensures.0, c.kin_at.ensures.0, c.below.ensures, c.user_sp.ensures, ap (λ (b : Start). b.name) c.start_at.ensures) refl)
