-- A slot's line, and the lines together.
use Prim.Native.Nat.{ℕ, ◌+◌, ◌<◌, ◌≤◌}
use native.Mathlib.Omega.{arith}
use native.Mathlib.Numerals.{add-one}
use mathlib.Core.Path.{◌≡◌, refl, sym, ap, ◌∙◌}
use mathlib.Core.Bool.{false}
use mathlib.Core.List.{List, [], ◌∷◌, ◌++◌, append_assoc, append-nil}
use lib.ListN.{length, take, drop, length-append, take-append-drop}
use lib.Seq.{take-suc, take_all, length-take-le}
use lib.Dec.{eqb}
use Rattle.std.specs.Prelude.{◌≢◌}
use Rattle.rules.specs.declared.ProcState.{ProcState}
use Rattle.rules.specs.declared.ProcState.TheVariants.{UNUSED, ALLOCATED, RUNNABLE, RUNNING, SLEEPING, ZOMBIE}
use Rattle.rules.specs.declared.Process.{Process}
use Rattle.rules.specs.Sizes.{slot_count}
use Rattle.rules.specs.Model.{Table, state_code, at, free}
use Rattle.rules.specs.Listing.{bytes, digits, state_text, line_of, lines_of, listing}
use Rattle.promises.specs.ListingBound.{state-short}
use Rattle.promises.specs.Laws.Digits.{digits-length}
use Rattle.words.specs.Reading.{table_of}
use Rattle.words.proofs.Facts.{slots-count}
use Rattle.names.specs.Names.{name_shown}
use Rattle.buffers.proofs.TextLaws.{wrote_none}
use Rattle.listing.specs.Lines.{pid_text, state_labelled, name_labelled, shown_line, line_at, lines_below}

-- what a match that is past UNUSED says
pub used : (s : ProcState) → s ≢ UNUSED → eqb 0 (state_code s) ≡ false
used UNUSED k = absurd (k refl)
used ALLOCATED k = refl
used RUNNABLE k = refl
used RUNNING k = refl
used SLEEPING k = refl
used ZOMBIE k = refl

line-pieces : (p : Process) → line_of p ≡ pid_text p.meta.pid.0 ++ state_labelled p.meta.state ++ name_labelled p.start.name
unfolding line_of pid_text state_labelled name_labelled name_shown
line-pieces p = simp append_assoc

module _ (t : Table) (s : ℕ) where
  pub line_none : (at t.core s).meta.state ≡ UNUSED → line_at t s ≡ []
  unfolding line_at shown_line
  line_none e = rw e

  pub line_used : (at t.core s).meta.state ≢ UNUSED
      → line_at t s ≡ pid_text (at t.core s).meta.pid.0 ++ state_labelled (at t.core s).meta.state ++ name_labelled (at t.core s).start.name
  unfolding line_at shown_line
  line_used k = rw (used (at t.core s).meta.state k) (line-pieces (at t.core s))

  pub line_sizes : (at t.core s).meta.state ≢ UNUSED
      → length (line_at t s) ≡ length (pid_text (at t.core s).meta.pid.0) + length (state_labelled (at t.core s).meta.state) + length (name_labelled (at t.core s).start.name)
  line_sizes k = rw (line_used k, length-append, length-append)

pub line-length : (n : ℕ) (s : ProcState) (name : List ℕ)
    → length (pid_text n ++ state_labelled s ++ name_labelled name) ≡ 21 + length (digits n) + length (state_text s) + length (name_shown name)
unfolding pid_text state_labelled name_labelled bytes
line-length n s name = simp length-append (omega arith)

-- ---- the lines together
lines-append : (l m : List Process) → lines_of (l ++ m) ≡ lines_of l ++ lines_of m
unfolding lines_of shown_line
lines-append [] m = refl
lines-append (p ∷ l) m = ap (λ (x : List ℕ). shown_line p ++ x) (lines-append l m) ∙ sym (append_assoc (shown_line p) (lines_of l) (lines_of m))

front_fits : (n : ℕ) (l : List Process) → length (lines_of (take n l)) ≤ length (lines_of l)
front_fits n l =
    let e : lines_of (take n l) ++ lines_of (drop n l) ≡ lines_of l = sym (lines-append (take n l) (drop n l)) ∙ ap lines_of (take-append-drop n l) in
    omega (arith, simp length-append at (ap length e))

module _ (w : List ℕ) where
  pub below_none : lines_below (table_of w) 0 ≡ []
  unfolding lines_below lines_of
  below_none = refl

  module _ (s : ℕ) where
    pub below_all : slot_count ≤ s → lines_below (table_of w) s ≡ listing (table_of w)
    unfolding lines_below listing
    below_all h = ap lines_of (take_all s (table_of w).core.slots (omega (arith, slots-count w)))

    pub below_more : s < slot_count → lines_below (table_of w) (s + 1) ≡ lines_below (table_of w) s ++ line_at (table_of w) s
    unfolding lines_below line_at shown_line lines_of
    below_more h =
        let l : List Process = (table_of w).core.slots in
        rw (add-one, take-suc l s free (omega (arith, slots-count w))) (lines-append (take s l) _ ∙ rw append-nil)

    pub below_long : s < slot_count → length (lines_below (table_of w) (s + 1)) ≡ length (lines_below (table_of w) s) + length (line_at (table_of w) s)
    below_long h = rw (below_more h, length-append)

    pub below_fits : s < slot_count → length (lines_below (table_of w) s) + length (line_at (table_of w) s) ≤ length (listing (table_of w))
    unfolding listing
    below_fits h = rw (← below_long h) (unfold lines_below in front_fits (s + 1) (table_of w).core.slots)

-- ---- what the functions of src/line.rt are proved by
pub ruleset length_laws = (line_none, line_used, line-length, digits-length, state-short, length-take-le)

pub ruleset line_laws = (line_none, line_sizes, wrote_none)

-- and those of src/lib.rt
pub ruleset listing_laws = (below_none, below_all, below_long, below_fits, wrote_none)
