-- Document 01's five empty programs, each shut out by the definition or the promise that it names.
use Rattle.std.specs.Prelude.{ℕ, ◌<◌, ◌≡◌, refl, Bool, true, false, cond, List, [], ◌∷◌, length, Result, Ok, Err}
use Rattle.std.proofs.Common.{arith, sym, ap, ◌∙◌}
use Rattle.promises.specs.Types.{Slot, UNUSED, Refusal, NoRoom, Made, Handed}
use Rattle.rules.specs.Model.{Table, at, is, pid, slot}
use Rattle.rules.specs.Calls.{Outcome}
use Rattle.rules.specs.Listing.{listing, fits_in, room_for}
use Rattle.rules.specs.Runs.{Call, boot, start, fork, dispatch, yield, step, run_by}
use Rattle.rules.specs.Open.{everything}
use Rattle.rules.specs.Worked.{up}
use Rattle.promises.specs.Laws.Bools.{clash}
use Rattle.promises.specs.Laws.Numbers.{some-hart}
use Rattle.promises.specs.FirstOut.{handed_out, FirstInFirstOut}
use Rattle.promises.specs.Demand3.{Dispatched, DispatchRule}
use Rattle.promises.specs.Reached.{reached}

-- demand 2: a rule does what the definition says, on every table that calls make of a fresh one
pub record Meets (f : Table → Call → Outcome) : Type 0 where
  pub same : (before : List Call) (c : Call) → f (reached before) c ≡ step (reached before) c

-- slot 0 waits, and the harts are idle
abbrev waiting : List Call
waiting = boot ∷ start ∷ []

-- slot 1 waits, then slot 0, and the harts are idle
abbrev two-waiting : List Call
two-waiting = up (fork 0 true ∷ yield 0 ∷ [])

one-waits : (reached waiting).core.queue ≡ 0 ∷ []
unfolding everything
one-waits = refl

-- ---- one refusing everything: by demand 2's definition, and by demand 3's dispatch rule
pub record RefusesAll (f : Table → Call → Outcome) : Type 0 where
  pub why : Table → Call → Refusal
  pub refuses : (t : Table) (c : Call) → (f t c).answer ≡ Err (why t c)

boots : (step (reached []) boot).answer ≡ Ok (Made (pid 1))
unfolding everything
boots = refl

pub refuses-all-defined : (f : Table → Call → Outcome) → RefusesAll f → Meets f → ⊥
refuses-all-defined f r m =
    let e : Err (r.why (reached []) boot) ≡ Ok (Made (pid 1)) = sym (r.refuses (reached []) boot) ∙ ap (λ (o : Outcome). o.answer) (m.same [] boot) ∙ boots in
    let z : ◌≡◌ {A = ℕ} 0 1 = cc in omega arith

-- what demand 3 asks of the first dispatch where slot 0 waits, and where slot 1 waits before it
one-granted : (f : Table → Call → Outcome) → DispatchRule f → Dispatched (f (reached waiting) (dispatch 0)) 0 0 []
unfolding DispatchRule everything
one-granted f d = d waiting 0 0 [] some-hart refl refl

two-granted : (f : Table → Call → Outcome) → DispatchRule f → Dispatched (f (reached two-waiting) (dispatch 0)) 0 1 (0 ∷ [])
unfolding DispatchRule everything
two-granted f d = d two-waiting 0 1 (0 ∷ []) some-hart refl refl

pub refuses-all-dispatch : (f : Table → Call → Outcome) → RefusesAll f → DispatchRule f → ⊥
refuses-all-dispatch f r d =
    let e = r.refuses (reached waiting) (dispatch 0) in
    let g = (one-granted f d).answer in
    let z : ◌≡◌ {A = ℕ} 0 1 = cc in omega arith

-- ---- one giving the same slot always: by the (k+1)th dispatch
abbrev pub GivesOnly : (Table → Call → Outcome) → Slot → Type 0
GivesOnly f s = (t : Table) (h : ℕ) (x : Slot) → (f t (dispatch h)).answer ≡ Ok (Handed x) → x ≡ s

-- by first in, first out: where two slots wait, it can't grant two dispatches, as the second is due to the slot that the first left there
pub same-slot-in-turn : (f : Table → Call → Outcome) (s : Slot) → GivesOnly f s → FirstInFirstOut f → (before : List Call) (g h : ℕ) (x y : Slot) → 1 < length (reached before).core.queue
    → (f (reached before) (dispatch g)).answer ≡ Ok (Handed x) → (f (f (reached before) (dispatch g)).table (dispatch h)).answer ≡ Ok (Handed y) → ⊥
unfolding FirstInFirstOut run_by handed_out
same-slot-in-turn f s k p before g h x y two a b =
    let turn = rw (a, b) at (p before (dispatch g ∷ dispatch h ∷ []) 1 two) in
    let same : x.0 ≡ y.0 = ap (λ (z : Slot). z.0) (k _ g x a ∙ sym (k _ h y b)) in
    turn.unserved 0 (omega arith) (omega arith) (same ∙ turn.served (omega arith))

-- by the dispatch rule, which has it grant: the first dispatch after two different histories
pub same-slot-always : (f : Table → Call → Outcome) (s : Slot) → GivesOnly f s → DispatchRule f → ⊥
same-slot-always f s k d =
    omega (arith, ap (λ (x : Slot). x.0) (k (reached waiting) 0 (slot 0) (one-granted f d).answer ∙ sym (k (reached two-waiting) 0 (slot 1) (two-granted f d).answer)))

-- ---- one doing nothing: by demand 2 a granted fork must add a slot; and by demand 3 a dispatch must hand out the head
fork-adds : is UNUSED (at (step (reached (up [])) (fork 0 true)).table.core 1) ≡ false
unfolding everything
fork-adds = refl

before-fork : is UNUSED (at (reached (up [])).core 1) ≡ true
unfolding everything
before-fork = refl

pub does-nothing : (f : Table → Call → Outcome) → ((t : Table) (c : Call) → (f t c).table ≡ t) → Meets f → ⊥
does-nothing f k m =
    let e : reached (up []) ≡ (step (reached (up [])) (fork 0 true)).table = sym (k (reached (up [])) (fork 0 true)) ∙ ap (λ (o : Outcome). o.table) (m.same (up []) (fork 0 true)) in
    clash before-fork (ap (λ (t : Table). is UNUSED (at t.core 1)) e ∙ fork-adds)

pub frozen-table : (f : Table → Call → Outcome) → ((t : Table) (c : Call) → (f t c).table ≡ t) → DispatchRule f → ⊥
frozen-table f k d = omega (arith, ap length (sym one-waits ∙ ap (λ (t : Table). t.core.queue) (sym (k (reached waiting) (dispatch 0))) ∙ (one-granted f d).queue))

-- ---- one that empties the queue at the first dispatch: the rest must still be there
pub empties-queue : (f : Table → Call → Outcome) → ((t : Table) (h : ℕ) (x : Slot) → (f t (dispatch h)).answer ≡ Ok (Handed x) → (f t (dispatch h)).table.core.queue ≡ []) → DispatchRule f → ⊥
empties-queue f k d = let g = two-granted f d in omega (arith, ap length (sym g.queue ∙ k (reached two-waiting) 0 (slot 1) g.answer))

-- ---- one with invented listing lengths: by the text's definition
pub record MeetsText (g : Table → ℕ → Result ℕ Refusal) : Type 0 where
  pub same : (before : List Call) (room : ℕ) → g (reached before) room ≡ room_for (reached before) room

-- whoever meets it and answers a length answers the text's
pub invented-length : (g : Table → ℕ → Result ℕ Refusal) → MeetsText g → (before : List Call) (room n : ℕ) → g (reached before) room ≡ Ok n → n ≡ length (listing (reached before))
unfolding room_for
invented-length g m before room n e = go (fits_in (reached before) room) (sym (m.same before room) ∙ e)
  where
    go : (b : Bool) → cond b (Ok (length (listing (reached before)))) (Err NoRoom) ≡ Ok n → n ≡ length (listing (reached before))
    go true p = cc
    go false p = cc
