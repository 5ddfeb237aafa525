-- What the contract of a public call says: the definition's answer, the definition's table, and that the table is in order again.
use Rattle.std.specs.Prelude.{◌≡◌}
use Rattle.std.proofs.Common.{sym, ◌∙◌, subst}
use Rattle.promises.specs.Types.{Answer}
use Rattle.rules.specs.Model.{Table}
use Rattle.rules.specs.Runs.{Call, step}
use Rattle.promises.specs.Order.Sound.{Sound}
use Rattle.promises.proofs.Reached.{step-sound}
use Rattle.promises.specs.Did.{Makes, Did}

pub did : {c : Call} {t : Table} {a : Answer} {u : Table} → Sound t → Makes (step t c) a u → Did c t a u
did {c} {t} w m = record { answer = m.answer; table = m.table; sound = subst Sound (sym m.table) (step-sound t c w) }

-- no second outcome: two that meet the contract on one input are the same
pub did-once : {c : Call} {t : Table} {a b : Answer} {u v : Table} → Did c t a u → Did c t b v → (a ≡ b) × (u ≡ v)
did-once p q = (p.answer ∙ sym q.answer, p.table ∙ sym q.table)
