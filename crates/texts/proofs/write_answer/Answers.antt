use Rattle.texts.specs.Texts.{answer_text}
use Rattle.rules.specs.Listing.{bytes}
use Rattle.buffers.proofs.TextLaws.{wrote-more}
use Rattle.std.proofs.Common.{rules}
use Rattle.texts.proofs.write_answer.Goals as goal

pub returns : goal.returns
unfolding answer_text bytes
returns c =
    (wrote-more c.write_said-on.ensures.0 c.write.ensures, search rules)
