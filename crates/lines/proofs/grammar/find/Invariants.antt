use Rattle.lines.specs.Grammar.{grammar, command_of, number_among}
use Rattle.std.proofs.Common.{drop, ◌≡◌, ◌+◌}
use Rattle.lines.proofs.grammar.find.Given as goal

abbrev pub invariant-loop-command : goal.invariant-loop-command
invariant-loop-command l = command_of l.name ≡ l.command-index + number_among (drop l.command-index grammar) l.name
