-- Words all zero hold the fresh table; and numbers become words and come back.
use Rattle.std.specs.Prelude.{Option, Some, None}
use Rattle.rules.specs.declared.Slot.{Slot}
use Rattle.std.proofs.Common.{◌≡◌, ℕ, zero, suc, ◌+◌, ◌-◌, ◌%◌, ◌<◌, Bool, true, false, eqb, List, [], ◌∷◌, replicate, refl, ap, ◌∙◌, mod-eq_of_lt, sym, subst, arith, ne_eqb}
use Rattle.rules.specs.Sizes.{slot_count, group_count, hart_count, trapframe, trampoline, page_size, name_size}
use Rattle.rules.specs.Model.{free, no_group, fresh}
use Rattle.promises.specs.Laws.Lists.{same-all}
use Rattle.promises.specs.Order.Sound.{Sound}
use Rattle.promises.proofs.Reached.{fresh-sound}
use Rattle.promises.specs.Laws.Ring.{reads, length_of, queue_of}
use Rattle.words.specs.declared.queue.RingAt.{RingAt}
use Rattle.words.specs.Layout.{slot_columns, size_column, count_column, init_cell, pids_cell, hart_cell, cell_number, column_at, cell_at, column, cell}
use Rattle.words.specs.Reading.{tab_from, tab, bytes_of, row_of, process_of, count_at, ring_of, queue_at, run_queue, slots_of, harts_of, groups_of, core_of, books_of, table_of, flag_of, parent_of, member_of, flag_word, parent_word, member_word, InTable, InGroups}

-- ---- words all zero, however many they are
tab-same : {A : Type 0} (n k : ℕ) (f : ℕ → A) (x : A) → ((i : ℕ) → f i ≡ x) → tab_from n k f ≡ replicate n x
unfolding tab_from
tab-same zero k f x h = refl
tab-same (suc n) k f x h = ap (λ y. y ∷ tab_from n (suc k) f) (h k) ∙ ap (λ l. x ∷ l) (tab-same n (suc k) f x h)

module _ (n : ℕ) where
  abbrev zeros : List ℕ
  zeros = replicate n 0

  column-zero : (f s : ℕ) → column zeros f s ≡ 0
  unfolding column
  column-zero f s = same-all n 0 (column_at f s)

  cell-zero : (k : ℕ) → cell zeros k ≡ 0
  unfolding cell
  cell-zero k = same-all n 0 (cell_at k)

  row-free : (s : ℕ) → process_of (row_of zeros s) ≡ free
  unfolding row_of tab process_of free tab_from bytes_of trapframe trampoline page_size name_size
  row-free s = ap process_of (tab-same slot_columns 0 (λ f. column zeros f s) 0 (λ f. column-zero f s))

  slots-new : slots_of zeros ≡ replicate slot_count free
  unfolding slots_of tab
  slots-new = tab-same slot_count 0 _ free row-free

  queue-new : (r : RingAt) → queue_at r zeros ≡ []
  unfolding queue_at queue_of length_of reads ring_of count_at
  queue-new r = rw (cell-zero (cell_number r.head), cell-zero (cell_number r.tail))

  harts-new : harts_of zeros ≡ replicate hart_count None
  unfolding harts_of tab
  harts-new = tab-same hart_count 0 _ None (λ h. ap parent_of (cell-zero (hart_cell h)))

  groups-new : groups_of zeros ≡ replicate group_count no_group
  unfolding groups_of tab
  groups-new = tab-same group_count 0 _ no_group (λ g. rw (column-zero size_column g, column-zero count_column g))

  pub new_law : table_of zeros ≡ fresh
  unfolding table_of core_of books_of fresh
  new_law = rw (slots-new, queue-new run_queue, harts-new, groups-new, cell-zero init_cell, cell-zero pids_cell)

  pub new_sound : Sound (table_of zeros)
  new_sound = subst Sound (sym new_law) fresh-sound

-- ---- a word and back
pub flag-back : (b : Bool) → flag_of (flag_word b) ≡ b
flag-back true = refl
flag-back false = refl

place-back : (n k : ℕ) → k < n → (k + 1 - 1) % n ≡ k
place-back n k b = let e : k + 1 - 1 ≡ k = omega arith in rw e (mod-eq_of_lt b)

some_word : (k : ℕ) → eqb (k + 1) 0 ≡ false
some_word k = ne_eqb (k + 1) 0 (λ z. omega arith)

pub parent-back : (p : Option Slot) → InTable p → parent_of (parent_word p) ≡ p
parent-back None b = refl
parent-back (Some s) b = rw (some_word s.0, place-back slot_count s.0 b)

pub member_back : (m : Option ℕ) → InGroups m → member_of (member_word m) ≡ m
member_back None b = refl
member_back (Some g) b = rw (some_word g, place-back group_count g b)
