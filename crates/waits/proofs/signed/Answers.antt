use Rattle.std.proofs.Common.{◌≡◌, ℕ, ◌%◌, ◌^◌, ap, ◌∙◌, arith, w32, to_z, to_z-of_z}
use Rattle.std.proofs.lemmas.Bool.Decides.{nat_tests}
use Rattle.std.proofs.lemmas.Int.{ints}
use Rattle.std.proofs.lemmas.Nat.{and_mask}
use Rattle.rules.specs.Calls.{signed}
use Rattle.waits.proofs.signed.Goals as goal

low-signed : (x : ℕ) → to_z w32 (x % 2 ^ 32) ≡ signed x
unfolding signed
low-signed x = grind (arith, nat_tests, ints)

pub returns : goal.returns
returns c =
    to_z-of_z {w = w32} (record { sfits = c.cast_signed.type_inv }) ∙ c.cast_signed.ensures ∙ ap (to_z w32) (and_mask c.args.status 32) ∙ low-signed c.args.status
