use Rattle.buffers.proofs.TextLaws.{part-from}
use Rattle.lines.specs.Words.{space_is}
use Rattle.lines.proofs.WordLaws.{letter-place, space-place, place-fits, words-cut}
use Rattle.std.proofs.Common.{◌∙◌, refl, true, false}
use Rattle.lines.proofs.word.next.Goals as goal

pub slice_bounds-from_word-start : goal.slice_bounds-from_word-start
slice_bounds-from_word-start c = place-fits c.args.line.now (space_is true) (rw c.first_letter.ensures at c.unwrap_or-start.ensures ∙ letter-place c.args.line.now)

pub split_at-requires : goal.split_at-requires
split_at-requires c = place-fits _ (space_is false) (rw c.first_space.ensures at c.unwrap_or-end.ensures ∙ space-place _)

pub returns : goal.returns
returns c =
    let w = words-cut c.args.line.now (rw c.first_letter.ensures at c.unwrap_or-start.ensures ∙ letter-place c.args.line.now) (part-from c.args.line.now c.unwrap_or-start.result _ refl) (rw c.first_space.ensures at c.unwrap_or-end.ensures ∙ space-place _) in
    record { word = c.split_at.ensures.front ∙ w.0; rest = c.split_at.ensures.back ∙ w.1 }
