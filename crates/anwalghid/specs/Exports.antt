-- What an exported function leaves behind: a code, the lent tables, and what was lent beside them.
use Rattle.std.specs.Prelude.{ℕ, ◌≡◌, ◌≢◌, Bool, cond, List, [], ◌∷◌, map, length, Option, Some, None, option_map}
use Rattle.std.proofs.Common.{sym, ap, ◌∙◌}
use Rattle.rules.specs.Model.{Table, fresh, at}
use Rattle.rules.specs.Listing.{room_for, listed_buffer}
use Rattle.rules.specs.Runs.{Call, step}
use Rattle.promises.specs.Order.Sound.{Sound}
use Rattle.words.specs.Reading.{table_of}
use Rattle.answers.specs.Words.{coded}
use Rattle.sights.specs.Sights.{room_words, show_room, show_buffer, slot_words}

pub record After (A : Type 0) : Type 0 where
  pub code : ℕ
  pub tables : List Table
  pub lent : A

-- nothing is touched
unfoldable pub kept : {A : Type 0} → ℕ → List Table → A → After A
kept code ts a = record { code = code; tables = ts; lent = a }

-- 0: f was done on the table; 2: there is no f, as an argument is outside its range
unfoldable pub done : {A : Type 0} → Option (Table → Table × A) → Table → A → After A
done (Some f) t a = record { code = 0; tables = (f t).0 ∷ []; lent = (f t).1 }
done None t a = kept 2 (t ∷ []) a

-- 1: not one table was lent
unfoldable pub on_one : {A : Type 0} → Option (Table → Table × A) → List Table → A → After A
on_one f (t ∷ []) a = done f t a
on_one f [] a = kept 1 [] a
on_one f (t ∷ u ∷ l) a = kept 1 (t ∷ u ∷ l) a

pub record Leaves {A : Type 0} (f : Option (Table → Table × A)) (ts : List (List ℕ)) (a : A) (code : ℕ) (us : List (List ℕ)) (d : A) : Type 0 where
  pub after : record { code = code; tables = map table_of us; lent = d } ≡ on_one f (map table_of ts) a
  -- not a word of them, whatever they hold
  pub untouched : code ≢ 0 → us ≡ ts

-- no second outcome: two that meet the contract on one input are the same
pub leaves-once : {A : Type 0} (f : Option (Table → Table × A)) (ts : List (List ℕ)) (a : A) {d e : A} {m n : ℕ} (us vs : List (List ℕ)) → Leaves f ts a m us d → Leaves f ts a n vs e → (m ≡ n) × (map table_of us ≡ map table_of vs) × (d ≡ e)
leaves-once {A = A} f ts a us vs p q =
    (ap (λ (x : After A). x.code) (p.after ∙ sym q.after), ap (λ (x : After A). x.tables) (p.after ∙ sym q.after), ap (λ (x : After A). x.lent) (p.after ∙ sym q.after))

-- none where an argument is outside its range
unfoldable pub allowed : {F : Type 0} → Bool → F → Option F
allowed b f = cond b (Some f) None

-- the one table is in order; of another number nothing is asked
unfoldable pub InOrder : List (List ℕ) → Type 0
InOrder (w ∷ []) = Sound (table_of w)
InOrder [] = Unit {0}
InOrder (w ∷ v ∷ l) = Unit {0}

-- ---- a fresh table
unfoldable pub renewed : Table → Table × Unit {0}
renewed t = (fresh, tt)

pub record Renewed (ts : List (List ℕ)) (code : ℕ) (us : List (List ℕ)) : Type 0 where
  pub leaves : Leaves (Some renewed) ts tt code us tt
  pub sound : code ≡ 0 → InOrder us

-- ---- a call, and its answer in three words
unfoldable pub called : Call → Table → Table × List ℕ
called c t = ((step t c).table, coded (step t c).answer)

pub record Exported (c : Option Call) (ts : List (List ℕ)) (a : List ℕ) (code : ℕ) (us : List (List ℕ)) (d : List ℕ) : Type 0 where
  pub leaves : Leaves (option_map called c) ts a code us d
  pub sound : InOrder us

-- ---- a look, and the table as it was
unfoldable pub looked : {A : Type 0} → (Table → A) → Table → Table × A
looked f t = (t, f t)

pub record Seen {A : Type 0} (f : Option (Table → A)) (ts : List (List ℕ)) (a : A) (code : ℕ) (d : A) : Type 0 where
  pub leaves : Leaves (option_map looked f) ts a code ts d

-- a text in the lent buffer, and three words that tell its length
unfoldable pub listed : List ℕ → Table → List ℕ × List ℕ
listed b t = (listed_buffer t b, room_words (room_for t (length b)))

unfoldable pub shown : List ℕ → Table → List ℕ × List ℕ
shown b t = (show_buffer t b, room_words (show_room t (length b)))

unfoldable pub slot_seen : ℕ → Table → List ℕ
slot_seen s t = slot_words (at t.core s)
