-- No parent is left dangling: whoever has one, its parent is there, and so is init.
use Rattle.std.specs.Prelude.{ℕ, ◌≡◌, refl, List, Some}
use Rattle.std.proofs.Common.{ap, ◌∙◌, eq-eqb}
use Rattle.rules.specs.Model.{at, is_slot, slot}
use Rattle.rules.specs.Runs.{Call}
use Rattle.promises.specs.Order.Sound.{Elder}
use Rattle.promises.specs.Reached.{reached}
use Rattle.promises.proofs.Reached.{reached-sound}

-- used, no ZOMBIE, no system thread
pub parent-there : (cs : List Call) (s q : ℕ) → (at (reached cs).core s).kin.parent ≡ Some (slot q) → Elder (at (reached cs).core q)
parent-there cs s q e = (reached-sound cs).raised.elder s q (ap (is_slot q) e ∙ eq-eqb q q refl)

pub init-there : (cs : List Call) (q : ℕ) → (reached cs).books.init ≡ Some (slot q) → Elder (at (reached cs).core q)
init-there cs q e = (((reached-sound cs).tidy q).first (ap (is_slot q) e ∙ eq-eqb q q refl)).elder
