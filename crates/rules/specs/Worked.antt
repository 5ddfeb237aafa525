-- How a worked run is written down, and when the definitions agree with it.
use Rattle.std.specs.Prelude.{ℕ, zero, suc, ◌-◌, Bool, true, false, ◌&&◌, cond, List, [], ◌∷◌, ◌++◌, length, drop, replicate, eqb, ℤ, pos, negsuc, Result}
use Rattle.rules.specs.Types.{Mapped, Answer, Refusal}
use Rattle.rules.specs.Answers.{values_of, room_values}
use Rattle.rules.specs.Model.{Table, fresh}
use Rattle.rules.specs.Listing.{room_for, listed_part}
use Rattle.rules.specs.Runs.{Call, boot, start, thread, dispatch, run}

-- the listing into a buffer of that room: the companion's answer, and the part written
pub record Look : Type 0 where
  pub room : ℕ
  pub answer : Result ℕ Refusal
  pub part : List ℕ

-- calls from a fresh table, the last of their answers, the queue after them, and looks at the listing then
pub record Case : Type 0 where
  pub calls : List Call
  pub ends : List Answer
  pub queue : List ℕ
  pub looks : List Look

-- ---- calls and queues that come up often
-- init runs on hart 0, and then these
abbrev pub up : List Call → List Call
up cs = boot ∷ start ∷ dispatch 0 ∷ cs

abbrev pub mapped : Mapped
mapped = record { entry = true; ret = true; stack = true; top = true }

-- hart 0 makes a thread
abbrev pub ask : ℕ → ℕ → Call
ask stack entry = thread 0 (record { entry = entry; arg = 9; stack = stack; ret = 1 }) mapped

-- n numbers from i on
unfoldable pub count_from : ℕ → ℕ → List ℕ
count_from i zero = []
count_from i (suc n) = i ∷ count_from (suc i) n

-- ---- whether the definitions agree
unfoldable pub same_int : ℤ → ℤ → Bool
same_int (pos n) (pos m) = eqb n m
same_int (pos n) (negsuc m) = false
same_int (negsuc n) (pos m) = false
same_int (negsuc n) (negsuc m) = eqb n m

unfoldable pub same_by : {A : Type 0} → (A → A → Bool) → List A → List A → Bool
same_by f [] [] = true
same_by f [] (y ∷ ys) = false
same_by f (x ∷ xs) [] = false
same_by f (x ∷ xs) (y ∷ ys) = f x y && same_by f xs ys

unfoldable pub same_answer : Answer → Answer → Bool
same_answer a b = same_by same_int (values_of a) (values_of b)

unfoldable pub right_looks : Table → List Look → Bool
right_looks t [] = true
right_looks t (l ∷ ls) =
    same_by same_int (room_values (room_for t l.room)) (room_values l.answer) && same_by eqb (listed_part t (replicate l.room 0)) l.part && right_looks t ls

unfoldable pub right : Case → Bool
right c =
    let r = run fresh c.calls in
    same_by same_answer (drop (length c.calls - length c.ends) r.answers) c.ends && same_by eqb r.table.core.queue c.queue
    && right_looks r.table c.looks

-- the places, from i on, of the cases that are not as written
unfoldable pub wrong : ℕ → List Case → List ℕ
wrong i [] = []
wrong i (c ∷ cs) = cond (right c) [] (i ∷ []) ++ wrong (suc i) cs
