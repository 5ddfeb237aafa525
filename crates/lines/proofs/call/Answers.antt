use Rattle.lines.specs.Meaning.{words_of, said_by}
use Rattle.lines.proofs.GrammarLaws.{numbered}
use Rattle.lines.proofs.MeaningLaws.{call-or-not}
use Rattle.std.proofs.Common.{◌∙◌, ap}
use Rattle.lines.proofs.call.Goals as goal

pub returns : goal.returns
unfolding words_of
returns c = call-or-not c.first.result c.map_or.ensures ∙ ap said_by (c.first.ensures ∙ rw (c.flags_together.ensures, (numbered c.args.command).tag))
