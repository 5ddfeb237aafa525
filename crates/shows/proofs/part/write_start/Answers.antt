use Rattle.pieces.specs.Pieces.{field}
use Rattle.shows.specs.Shows.{start_text}
use Rattle.rules.specs.Listing.{bytes}
use Rattle.buffers.proofs.TextLaws.{wrote-more}
use Rattle.std.proofs.Common.{rules, sym, ◌∙◌}
use Rattle.shows.proofs.part.write_start.Goals as goal

pub returns : goal.returns
unfolding start_text field bytes
returns c =
    (rw (← c.start_at-w.ensures) (rw (c.trapframe_at.ensures, c.start_at-named.ensures ∙ sym c.start_at-w.ensures) at (wrote-more (wrote-more (wrote-more c.write_field-a.ensures.0 c.write_field-b.ensures.0) c.write_record-c.ensures.0) c.write_name.ensures.0)), search rules)
