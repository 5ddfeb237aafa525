-- A name as the listing shows it.
use Rattle.std.specs.Prelude.{ℕ, List, map}
use Rattle.rules.specs.Listing.{up_to_zero, shown}

unfoldable pub name_shown : List ℕ → List ℕ
name_shown name = map shown (up_to_zero name)
