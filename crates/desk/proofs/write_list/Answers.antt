use Rattle.desk.proofs.DeskLaws.{list-room, list-fits, list-short}
use Rattle.std.proofs.Common.{sym, ◌∙◌}
use Rattle.desk.proofs.write_list.Goals as goal

pub write_listing-requires : goal.write_listing-requires
write_listing-requires c =
    list-room _ c.requires.0 _ _ c.requires.1

pub returns-in-Ok : goal.returns-in-Ok
returns-in-Ok c =
    list-fits _ c.requires.0 _ (sym c.in-Ok.is ∙ c.room_for.ensures) c.write_listing.ensures

pub returns-in-Err : goal.returns-in-Err
returns-in-Err c =
    list-short _ c.requires.0 _ (sym c.in-Err.is ∙ c.room_for.ensures) c.write_answer.ensures.0 c.write_answer.ensures.1
