use Rattle.rules.specs.Sizes.{slot_count, hart_count}
use Rattle.words.specs.Layout.{word_count}
use Rattle.words.proofs.Fresh.{new_law, new_sound}
use Rattle.words.proofs.Table.new.Goals as goal

pub returns : goal.returns
unfolding word_count slot_count hart_count
returns c = (new_law word_count, new_sound word_count)
