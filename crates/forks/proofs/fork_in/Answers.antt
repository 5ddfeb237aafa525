use Rattle.std.specs.Prelude.{Ok}
use Rattle.std.proofs.Common.{refl, ap, ℕ}
use Rattle.taking.proofs.Facts.{given, if-not}
use Rattle.words.specs.Reading.{table_of}
use Rattle.words.specs.Effects.{on_books}
use Rattle.promises.specs.Order.Chains.{on_core}
use Rattle.rules.specs.declared.Start.{Start}
use Rattle.rules.specs.declared.Grant.TheVariants.{Made}
use Rattle.rules.specs.Sizes.{page_size, trampoline, trapframe}
use Rattle.rules.specs.Model.{pid}
use Rattle.rules.specs.Moves.{change, open_group}
use Rattle.rules.specs.Calls.{fill, publish_new, made_in, child_in, forked_in}
use Rattle.forks.proofs.fork_in.Goals as goal

pub make_runnable-requires : goal.make_runnable-requires
unfolding fill change on_core on_books
make_runnable-requires c =
    (c.requires.2, rw (c.set_group.ensures, c.fill.ensures) c.requires.3)

pub returns : goal.returns
unfolding forked_in made_in publish_new child_in open_group on_core on_books trapframe trampoline page_size
returns c =
    if-not _ (table_of c.args.t.now) refl (given (ap (λ (n : ℕ). Ok (Made (pid n))) c.pids-n.ensures)
    (rw (c.make_runnable.ensures, c.set_group.ensures, c.fill.ensures, c.pids-n.ensures, c.group_at-space.ensures, c.new_group-new.ensures.0, c.user_sp.ensures, ap (λ (b : Start). b.name) c.start_at.ensures) refl))
