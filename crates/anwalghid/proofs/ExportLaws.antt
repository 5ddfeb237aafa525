-- An exported function by how many tables were lent, and by its arguments.
use Rattle.std.specs.Prelude.{Option, Some, None}
use Rattle.std.specs.Bool.{then_some}
use Prim.Native.Nat.{ℕ}
use native.Mathlib.Omega.{arith}
use mathlib.Core.Path.{◌≡◌, refl, sym, ◌∙◌}
use mathlib.Core.Bool.{Bool, true, false}
use mathlib.Core.List.{List, [], ◌∷◌}
use lib.ListN.{length, get_or, set}
use Rattle.rules.specs.Types.{Answer}
use Rattle.rules.specs.Model.{Table, fresh}
use Rattle.rules.specs.Runs.{Call}
use Rattle.promises.specs.Order.Sound.{Sound}
use Rattle.promises.specs.Did.{Did}
use Rattle.words.specs.Reading.{table_of}
use Rattle.answers.specs.Words.{coded}
use Rattle.anwalghid.specs.Exports.{kept, done, on_one, Leaves, InOrder, renewed, Renewed, called, Exported, looked, Seen}

-- ---- by the number of tables
-- another number than one
pub other_number : {A : Type 0} (f : Option (Table → Table × A)) (ts : List (List ℕ)) (a : A) → ¬ (length ts ≡ 1) → Leaves f ts a 1 ts a
unfolding on_one kept
other_number f [] a n = record { after = refl; untouched = λ _. refl }
other_number f (w ∷ []) a n = absurd (n refl)
other_number f (w ∷ v ∷ l) a n = record { after = refl; untouched = λ _. refl }

-- one is the first, and all
pub all_one : (ts : List (List ℕ)) → length ts ≡ 1 → get_or ts 0 [] ∷ [] ≡ ts
all_one [] e = absurd (omega (arith, e))
all_one (w ∷ []) e = refl
all_one (w ∷ v ∷ l) e = absurd (omega (arith, e))

-- ---- a number as an argument: it is read in its range alone
module _ {A : Type 0} {b : Bool} (x : A) {r : Option A} where
  pub in-range : {y : A} → r ≡ then_some b x → r ≡ Some y → (b ≡ true) × (x ≡ y)
  in-range {y} e h = go b (sym e ∙ h)
    where
      go : (b : Bool) → then_some b x ≡ Some y → (b ≡ true) × (x ≡ y)
      go true h = (refl, cc)
      go false h = cc

  pub out_of_range : r ≡ then_some b x → r ≡ None → b ≡ false
  out_of_range e h = go b (sym e ∙ h)
    where
      go : (b : Bool) → then_some b x ≡ None → b ≡ false
      go true h = cc
      go false h = refl

-- ---- one table
module _ (ts : List (List ℕ)) (one : length ts ≡ 1) where
  pub first-sound : InOrder ts → Sound (table_of (get_or ts 0 []))
  unfolding InOrder
  first-sound s = rw (← all_one ts one) at s

  pub set-sound : (w : List ℕ) → Sound (table_of w) → InOrder (set ts 0 w)
  unfolding InOrder
  set-sound w s = rw (← all_one ts one) s

  module _ {A : Type 0} {f : Option (Table → Table × A)} {a d : A} where
    pub leaves-set : (w : List ℕ) → record { code = 0; tables = table_of w ∷ []; lent = d } ≡ done f (table_of (get_or ts 0 [])) a → Leaves f ts a 0 (set ts 0 w) d
    unfolding on_one
    leaves-set w e = record { after = rw (← all_one ts one) e; untouched = λ n. absurd (n refl) }

    pub leaves-same : {code : ℕ} → record { code = code; tables = table_of (get_or ts 0 []) ∷ []; lent = d } ≡ done f (table_of (get_or ts 0 [])) a → Leaves f ts a code ts d
    unfolding on_one
    leaves-same e = record { after = rw (← all_one ts one) e; untouched = λ _. refl }

  -- ---- a fresh table
  pub renewed_one : (w : List ℕ) → (table_of w ≡ fresh) × Sound (table_of w) → Renewed ts 0 (set ts 0 w)
  unfolding done renewed
  renewed_one w e = record { leaves = leaves-set w (rw e.0); sound = λ _. set-sound w e.1 }

  -- ---- a call
  pub answered : {c : Call} {b d : List ℕ} (w : List ℕ) {a : Answer} → Did c (table_of (get_or ts 0 [])) a (table_of w) → d ≡ coded a → Exported (Some c) ts b 0 (set ts 0 w) d
  unfolding done called
  answered w did e = record { leaves = leaves-set w (rw (e, did.answer, did.table)); sound = set-sound w did.sound }

  pub not_called : (b : List ℕ) → InOrder ts → Exported None ts b 2 ts b
  unfolding done kept
  not_called b s = record { leaves = leaves-same refl; sound = s }

  -- ---- a look
  module _ {A : Type 0} {a : A} where
    pub seen_one : (f : Table → A) {d : A} → d ≡ f (table_of (get_or ts 0 [])) → Seen (Some f) ts a 0 d
    unfolding done looked
    seen_one f e = record { leaves = leaves-same (rw e) }

    pub unseen : Seen None ts a 2 a
    unfolding done kept
    unseen = record { leaves = leaves-same refl }

  -- a buffer, and the words that tell of it
  pub text-seen : (f : Table → List ℕ × List ℕ) {a : List ℕ × List ℕ} {b d : List ℕ} → b ≡ (f (table_of (get_or ts 0 []))).0 → d ≡ (f (table_of (get_or ts 0 []))).1 → Seen (Some f) ts a 0 (b, d)
  text-seen f p q = seen_one f (rw (p, q))
