use Rattle.std.proofs.Common.{◌+◌, eq-eqb, ne_eqb, ap, ◌∙◌, ℕ, set}
use Rattle.lines.specs.Meaning.{flags_together}
use Rattle.lines.specs.Grammar.{first_call, is_command, number_of}
use Rattle.lines.proofs.GrammarLaws.{thread-is, same-number}
use Rattle.lines.specs.declared.grammar.Command.TheVariants.{Thread}
use Rattle.lines.proofs.flags_together.Goals as goal

pub returns-in-Thread : goal.returns-in-Thread
unfolding flags_together is_command
returns-in-Thread c = rw (thread-is, eq-eqb (number_of c.args.command) (first_call + 5) (ap number_of c.in-Thread.is)) (ap (λ (x : ℕ). set c.args.w.now 6 x) (c.unwrap_or.ensures ∙ c.bits.ensures))

pub returns-in_default : goal.returns-in_default
unfolding flags_together is_command
returns-in_default c = rw (thread-is, ne_eqb (number_of c.args.command) (first_call + 5) (λ e. c.in_default.not-Thread (same-number c.args.command Thread e)))
