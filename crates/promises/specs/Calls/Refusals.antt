-- Each call on a sound table is refused as document 01's table and order have it.
use Rattle.std.proofs.Math.Path.{◌≡◌}
use Rattle.rules.specs.Model.{Table}
use Rattle.rules.specs.Calls.{Outcome}
use Rattle.rules.specs.Runs.{Call}
use Rattle.promises.specs.Calls.RefusalTable.{refusal_of, lines_of, order, first_of}

-- the call's refusal is the one that the table and the order have
unfoldable pub Right : Table → Call → Outcome → Type 0
Right t c o = refusal_of o.answer ≡ first_of order (lines_of t c)
