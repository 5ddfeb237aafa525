-- The bounds of the listing: how long its text can be, and that a lent buffer changes only where the text is written.
use Rattle.std.specs.Prelude.{ℕ, suc, ◌+◌, ◌-◌, ◌*◌, ◌≤◌, ◌≡◌, refl, Bool, true, cond, List, [], ◌∷◌, length, get_or, take, drop, eqb}
use native.Mathlib.Omega.{arith}
use Rattle.std.proofs.Common.{◌∙◌, length-append, length-drop, get_or-append-add, get_or-drop}
use Rattle.std.proofs.Math.Bool.{false}
use Rattle.std.proofs.lemmas.List.{length-map}
use Rattle.std.proofs.Math.Seq.{take-append_seam}
use borrow.Author.Tests.{leb-true}
use Rattle.promises.specs.Types.{ProcState, UNUSED, ALLOCATED, RUNNABLE, RUNNING, SLEEPING, ZOMBIE, Process}
use Rattle.rules.specs.Sizes.{slot_count, name_size, line_top, listing_top}
use Rattle.rules.specs.Model.{Table, is, free, at}
use Rattle.rules.specs.Listing.{bytes, state_text, up_to_zero, line_of, lines_of, listing, fits_in, listed_part, listed_buffer}
use Rattle.promises.specs.Laws.Digits.{digits-length}

-- ---- the text
pub state-short : (s : ProcState) → length (state_text s) ≤ 9
unfolding state_text bytes
state-short UNUSED = omega arith
state-short ALLOCATED = omega arith
state-short RUNNABLE = omega arith
state-short RUNNING = omega arith
state-short SLEEPING = omega arith
state-short ZOMBIE = omega arith

name-short : (l : List ℕ) → length (up_to_zero l) ≤ length l
unfolding up_to_zero
name-short [] = omega arith
name-short (x ∷ l) = go (eqb x 0) refl (name-short l)
  where
    go : (b : Bool) → eqb x 0 ≡ b → length (up_to_zero l) ≤ length l → length (up_to_zero (x ∷ l)) ≤ suc (length l)
    go true e h = rw (e, up_to_zero) (omega arith)
    go false e h = rw (e, up_to_zero) (omega arith)

pub line-short : (p : Process) → length p.start.name ≤ name_size → length (line_of p) ≤ line_top
unfolding line_of bytes line_top
line-short p h =
    simp (length-append, length-map) (omega (arith, digits-length p.meta.pid.0, state-short p.meta.state, name-short p.start.name))

lines-short : (l : List Process) → ((s : ℕ) → length (get_or l s free).start.name ≤ name_size) → length (lines_of l) ≤ length l * line_top
unfolding lines_of
lines-short [] h = omega arith
lines-short (p ∷ l) h =
    omega (arith, go (is UNUSED p), lines-short l (λ s. h (suc s)), length-append (cond (is UNUSED p) [] (line_of p)) (lines_of l))
  where
    go : (b : Bool) → length (cond b [] (line_of p)) ≤ line_top
    go true = omega arith
    go false = line-short p (h 0)

pub listing-short : (t : Table) → length t.core.slots ≡ slot_count → ((s : ℕ) → length (at t.core s).start.name ≤ name_size)
    → length (listing t) ≤ listing_top
unfolding listing listing_top
listing-short t e h = rw (← e) (lines-short t.core.slots h)

-- ---- the buffer
part-fits : (t : Table) (b : List ℕ) → length (listed_part t b) ≤ length b
unfolding listed_part
part-fits t b = go (fits_in t (length b)) refl
  where
    go : (c : Bool) → fits_in t (length b) ≡ c → length (cond c (listing t) []) ≤ length b
    go true e = unfold fits_in in leb-true _ _ e
    go false e = omega arith

pub buffer-kept : (t : Table) (b : List ℕ) → length (listed_buffer t b) ≡ length b
unfolding listed_buffer
buffer-kept t b = rw (length-append, length-drop) (omega (arith, part-fits t b))

pub front-written : (t : Table) (b : List ℕ) → take (length (listed_part t b)) (listed_buffer t b) ≡ listed_part t b
unfolding listed_buffer
front-written t b = take-append_seam (listed_part t b) _

pub rest-kept : (t : Table) (b : List ℕ) (i : ℕ) → length (listed_part t b) ≤ i → get_or (listed_buffer t b) i 0 ≡ get_or b i 0
unfolding listed_buffer
rest-kept t b i h =
    let n : ℕ = length (listed_part t b) in
    let e : n + (i - n) ≡ i = omega arith in
    rw e at (get_or-append-add (listed_part t b) (drop n b) (i - n) 0 ∙ get_or-drop n b (i - n) 0)

pub unfit-part : (t : Table) (b : List ℕ) → fits_in t (length b) ≡ false → listed_part t b ≡ []
unfolding listed_part
unfit-part t b e = rw e

pub unfit-buffer : (t : Table) (b : List ℕ) → fits_in t (length b) ≡ false → listed_buffer t b ≡ b
unfolding listed_buffer
unfit-buffer t b e = rw (unfit-part t b e)
