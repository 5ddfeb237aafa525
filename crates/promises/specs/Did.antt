-- What the contract of a public call says: the definition's answer, the definition's table, and that the table is in order again.
use Rattle.std.specs.Prelude.{◌≡◌}
use Rattle.promises.specs.Types.{Answer}
use Rattle.rules.specs.Model.{Table}
use Rattle.rules.specs.Calls.{Outcome}
use Rattle.rules.specs.Runs.{Call, step}
use Rattle.promises.specs.Order.Sound.{Sound}

pub record Makes (o : Outcome) (a : Answer) (u : Table) : Type 0 where
  pub answer : a ≡ o.answer
  pub table : u ≡ o.table

pub record Did (c : Call) (t : Table) (a : Answer) (u : Table) : Type 0 where
  pub answer : a ≡ (step t c).answer
  pub table : u ≡ (step t c).table
  pub sound : Sound u
