-- What a look for threads finds.
use Rattle.std.specs.Prelude.{ℕ, Bool, false, Option, Some, None}
use Rattle.rules.specs.declared.ProcState.TheVariants.{ZOMBIE}
use Rattle.rules.specs.Model.{Table, at, is}
use Rattle.rules.specs.Moves.{lowest}
use Rattle.rules.specs.Calls.{thread_of}

unfoldable pub is_zombie : Table → Option ℕ → Bool
is_zombie t None = false
is_zombie t (Some i) = is ZOMBIE (at t.core i)

-- is the lowest thread slot of the group ZOMBIE?
unfoldable pub first_is_zombie : Option ℕ → Table → Bool
first_is_zombie m t = is_zombie t (lowest (thread_of m) t.core.slots)
