-- The listing of every reached table: listing_top bytes always suffice, and the digits it writes for a pid say that pid.
use Rattle.std.specs.Prelude.{ℕ, zero, suc, ◌≤◌, ◌≡◌, refl, List, [], length, replicate, Ok}
use Rattle.std.proofs.Common.{arith, le-leb}
use Rattle.rules.specs.Sizes.{slot_count, listing_top}
use Rattle.rules.specs.Model.{at, free, fresh}
use Rattle.rules.specs.Listing.{digits, lines_of, listing, fits_in, room_for, listed_part}
use Rattle.rules.specs.Runs.{Call}
use Rattle.promises.specs.Laws.Numbers.{pids-short}
use Rattle.promises.specs.Laws.Digits.{value_of, digits_value}
use Rattle.promises.specs.ListingBound.{listing-short}
use Rattle.promises.specs.Reached.{reached}
use Rattle.promises.proofs.Reached.{reached-sound}

pub listing-bounded : (cs : List Call) → length (listing (reached cs)) ≤ listing_top
listing-bounded cs = let w = reached-sound cs in listing-short (reached cs) w.queued.tall (λ s. omega (arith, (w.tidy s).name))

-- a buffer of that size gets the text
pub listing-suffices : (cs : List Call) (b : List ℕ) → listing_top ≤ length b
    → (listed_part (reached cs) b ≡ listing (reached cs)) × (room_for (reached cs) (length b) ≡ Ok (length (listing (reached cs))))
unfolding listed_part room_for fits_in
listing-suffices cs b l = let e = le-leb (length (listing (reached cs))) (length b) (omega (arith, listing-bounded cs)) in (rw e, rw e)

pub listing-pids : (cs : List Call) (s : ℕ) → value_of (digits (at (reached cs).core s).meta.pid.0) ≡ (at (reached cs).core s).meta.pid.0
listing-pids cs s = let w = (reached-sound cs).numbered in digits_value _ (pids-short _ (omega (arith, w.high s, w.top)))

-- a fresh table's empty text fits any room
free-lines : (n : ℕ) → lines_of (replicate n free) ≡ []
unfolding lines_of free
free-lines zero = refl
free-lines (suc n) = free-lines n

fresh-empty : listing fresh ≡ []
unfolding listing fresh
fresh-empty = free-lines slot_count

pub fresh-fits : (room : ℕ) → room_for fresh room ≡ Ok 0
unfolding room_for fits_in
fresh-fits room = rw (fresh-empty, le-leb 0 room (omega arith))
