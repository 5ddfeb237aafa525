use Rattle.std.proofs.Common.{arith, sym}
use Rattle.anwalghid.proofs.ExportLaws.{other_number, all_one, seen_one}
use Rattle.anwalghid.proofs.tables.text_of.Goals as goal

pub returns-in_default : goal.returns-in_default
returns-in_default g c f m = record { leaves = other_number _ _ _ (λ e. grind arith) }

pub write-requires : goal.write-requires
write-requires g c = c.requires _ _ (sym (all_one _ (omega arith)))

pub returns : goal.returns
returns g c f m = rw c.room_words.ensures (seen_one _ (omega arith) (f _) (m _ _ _ _ c.write.ensures))
