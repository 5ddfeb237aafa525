use Rattle.anwalghid.proofs.ExportLaws.{other_number, first-sound, answered}
use Rattle.anwalghid.proofs.calls.on_one.Goals as goal

pub returns-then-tables-ne1 : goal.returns-then-tables-ne1
returns-then-tables-ne1 g c d m = record { leaves = other_number _ _ _ c.if-tables-ne1.true; sound = c.requires.in_order }

pub call-requires : goal.call-requires
call-requires g c = c.requires.callable _ (first-sound _ c.if-tables-ne1.false c.requires.in_order)

pub returns : goal.returns
returns g c d m =
    answered _ c.if-tables-ne1.false _ (m _ _ _ c.call.ensures) c.words_of.ensures
