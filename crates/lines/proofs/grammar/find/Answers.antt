use Rattle.lines.proofs.GrammarLaws.{number-at, walk-starts, walk_ends, walk-found, walk-goes}
use Rattle.lines.proofs.WordLaws.{told-same}
use Rattle.std.proofs.Common.{arith}
use Rattle.lines.proofs.grammar.find.Goals as goal

pub loop-command-init : goal.loop-command-init
loop-command-init c = walk-starts c.args.name.now

pub returns-then-eq : goal.returns-then-eq
returns-then-eq c = walk-found c.args.name.now c.loop-command.invariant c.loop-command-test.true (number-at c.loop-command.command-index _ c.loop-command-test.true) (told-same c.args.name.now c.name.ensures c.eq.ensures c.if-eq.true)

pub loop-command-preserved : goal.loop-command-preserved
loop-command-preserved c = walk-goes c.args.name.now c.loop-command.invariant c.loop-command-test.true (number-at c.loop-command.command-index _ c.loop-command-test.true) (told-same c.args.name.now c.name.ensures c.eq.ensures c.if-eq.false)

pub returns : goal.returns
returns c = walk_ends c.args.name.now c.loop-command.invariant c.loop-command-test.false (omega arith)
