-- What the answer to room_for says.
use Rattle.std.specs.Prelude.{Ok, Err}
use Prim.Native.Nat.{ℕ}
use mathlib.Core.Path.{◌≡◌, refl}
use mathlib.Core.Bool.{Bool, true, false, cond}
use lib.ListN.{length}
use Rattle.rules.specs.declared.Refusal.{Refusal}
use Rattle.rules.specs.declared.Refusal.TheVariants.{NoRoom}
use Rattle.rules.specs.Model.{Table}
use Rattle.rules.specs.Listing.{listing, fits_in, room_for}

pub fits_told : (t : Table) (n room : ℕ) → Ok n ≡ room_for t room → (fits_in t room ≡ true) × (n ≡ length (listing t))
unfolding room_for
fits_told t n room = go (fits_in t room)
  where
    go : (f : Bool) → Ok n ≡ cond f (Ok (length (listing t))) (Err NoRoom) → (f ≡ true) × (n ≡ length (listing t))
    go true e = (refl, cc)
    go false e = (cc, cc)

pub short-told : (t : Table) (r : Refusal) (room : ℕ) → Err r ≡ room_for t room → fits_in t room ≡ false
unfolding room_for
short-told t r room = go (fits_in t room)
  where
    go : (f : Bool) → Err r ≡ cond f (Ok (length (listing t))) (Err NoRoom) → f ≡ false
    go true e = cc
    go false e = refl
