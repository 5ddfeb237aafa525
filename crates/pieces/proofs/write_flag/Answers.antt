use Rattle.pieces.specs.Pieces.{flag_text}
use Rattle.rules.specs.Listing.{bytes}
use Rattle.buffers.proofs.TextLaws.{wrote-more}
use Rattle.std.proofs.Common.{◌≡◌, rules}
use Rattle.pieces.proofs.write_flag.Goals as goal
use Rattle.pieces.proofs.write_flag.Goals.{then-b, else-b}

pub returns : goal.returns
returns c =
    let text : c.if-b.write.now ≡ flag_text c.args.b = unfold flag_text bytes in elim c.if-b.branch [ then-b w ↦ cc | else-b w ↦ cc ] in
    (rw (← text) (wrote-more c.write-on.ensures c.write.ensures), search rules)
