-- Each way through grow, as the rules have it.
use Rattle.std.specs.Prelude.{Option, Some, None, Ok, Err, IsErr, IsErrAnd, ok_or}
use Prim.Native.Nat.{ℕ}
use mathlib.Core.Path.{◌≡◌, refl, sym, ap, ◌∙◌}
use mathlib.Core.Bool.{Bool, true, false, not, ◌&&◌}
use mathlib.Core.Logic.{◌⊎◌, inl, inr}
use lib.IntN.{ℤ, pos, negsuc, ◌+ℤ◌}
use lib.Signed.{lt_z}
use Rattle.rules.specs.declared.Group.{Group}
use Rattle.rules.specs.declared.Kin.{Kin}
use Rattle.rules.specs.declared.Refusal.{Refusal}
use Rattle.rules.specs.declared.Refusal.TheVariants.{NoGroup, SizeOutOfLimits, NoMemory}
use Rattle.rules.specs.Types.{Answer}
use Rattle.rules.specs.declared.Grant.TheVariants.{Done}
use Rattle.rules.specs.Model.{Table, at, group_at}
use Rattle.rules.specs.Moves.{resize}
use Rattle.rules.specs.Calls.{found, within, upward, grown, grown_by, grown_to}
use Rattle.rules.specs.Runs.{step, grow}
use Rattle.promises.specs.Order.Sound.{Sound}
use Rattle.promises.specs.Did.{Makes, Did}
use Rattle.promises.proofs.Did.{did}
use Rattle.words.specs.Effects.{on_books}
use Rattle.taking.specs.Parts.{caller_of}
use Rattle.taking.proofs.Facts.{given, if-so, if-not, found_none, found_at, hart-no, hart-is, group-alone, group-in, exit-refused}

lacking : {n m : Refusal} (o : Option ℕ) → Err n ≡ ok_or o m → (n ≡ m) × (None ≡ o)
lacking None e = (cc, refl)
lacking (Some i) e = absurd cc

-- ---- whether the host's answer counts
over : (z : ℤ) → lt_z (pos 0) z ≡ upward z
unfolding upward
over (pos n) = refl
over (negsuc n) = refl

-- z is the count as it was handed on
module _ {z d : ℤ} (i : z ≡ d) where
  asked : {memory : Bool} → lt_z (pos 0) z ≡ true → memory ≡ false → (upward d && not memory) ≡ true
  asked e f = rw (sym (over d) ∙ ap (lt_z (pos 0)) (sym i) ∙ e, f)

  unasked : {memory : Bool} → ((lt_z (pos 0) z ≡ true) × (memory ≡ true)) ⊎ (lt_z (pos 0) z ≡ false) → (upward d && not memory) ≡ false
  unasked (inl (e, f)) = rw (sym (over d) ∙ ap (lt_z (pos 0)) (sym i) ∙ e, f)
  unasked (inr e) = rw (sym (over d) ∙ ap (lt_z (pos 0)) (sym i) ∙ e)

  sized : {x y : Group} {o : Option ℕ} → x ≡ y → o ≡ within (pos x.size +ℤ z) → o ≡ within (pos y.size +ℤ d)
  sized {y = y} b q = q ∙ ap (λ (x : Group). within (pos x.size +ℤ z)) b ∙ ap (λ (z : ℤ). within (pos y.size +ℤ z)) i

-- ---- grow, step by step
module _ {t : Table} {h : ℕ} {d : ℤ} {memory : Bool} (w : Sound t) where
  pub grow-no : {r : Answer} {n : Refusal} → Err n ≡ caller_of t.core h → IsErr r × IsErrAnd r (λ m. m ≡ n) → Did (grow h d memory) t r t
  unfolding step grown
  grow-no e f = did w (exit-refused f (hart-no t h _ e))

  module _ {s : ℕ} (c : Ok s ≡ caller_of t.core h) {k : Kin} (e : k ≡ (at t.core s).kin) where
    at-caller : {a : Answer} {u : Table} → Makes (grown_by t d memory s) a u → Did (grow h d memory) t a u
    unfolding step grown
    at-caller m = did w (hart-is t h _ c m)

    pub grow-alone : {r : Answer} {n : Refusal} → Err n ≡ ok_or k.group NoGroup → IsErr r × IsErrAnd r (λ m. m ≡ n) → Did (grow h d memory) t r t
    unfolding grown_by
    grow-alone l f = let y = lacking k.group l in at-caller (exit-refused f (rw y.0 (group-alone t s _ (y.1 ∙ ap (λ (k : Kin). k.group) e))))

    module _ {g : ℕ} (j : k.group ≡ Some g) {x : Group} (b : x ≡ group_at t.books g) {z : ℤ} (i : z ≡ d) {o : Option ℕ} (q : o ≡ within (pos x.size +ℤ z)) where
      at-group : {a : Answer} {u : Table} → Makes (found SizeOutOfLimits t (within (pos (group_at t.books g).size +ℤ d)) (grown_to t d memory g)) a u → Did (grow h d memory) t a u
      unfolding grown_by
      at-group m = at-caller (group-in t s _ (sym j ∙ ap (λ (k : Kin). k.group) e) m)

      pub grow-out : {r : Answer} {n : Refusal} → Err n ≡ ok_or o SizeOutOfLimits → IsErr r × IsErrAnd r (λ m. m ≡ n) → Did (grow h d memory) t r t
      grow-out l f = let y = lacking o l in at-group (exit-refused f (rw y.0 (found_none _ (y.1 ∙ sized i b q))))

      module _ {n : ℕ} (y : o ≡ Some n) where
        at-size : {a : Answer} {u : Table} → Makes (grown_to t d memory g n) a u → Did (grow h d memory) t a u
        at-size m = at-group (found_at _ t _ (sym y ∙ sized i b q) m)

        pub grow-unfed : lt_z (pos 0) z ≡ true → memory ≡ false → Did (grow h d memory) t (Err NoMemory) t
        unfolding grown_to
        grow-unfed p l = at-size (if-so _ (asked i p l))

        pub grow-is : {u : Table} → ((lt_z (pos 0) z ≡ true) × (memory ≡ true)) ⊎ (lt_z (pos 0) z ≡ false) → u ≡ on_books (resize g n) t → Did (grow h d memory) t (Ok Done) u
        unfolding grown_to on_books
        grow-is p v = at-size (if-not _ t (unasked i p) (given refl v))

-- ---- what the check answers refusals by
pub ruleset refusals = (grow-no, grow-alone)
