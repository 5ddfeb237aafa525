-- Groups, harts, init and the pid counter: read and set.
use Rattle.std.specs.Prelude.{Option, None}
use Rattle.rules.specs.declared.Slot.{Slot}
use Rattle.std.proofs.Common.{◌≡◌, ℕ, ◌+◌, ◌<◌, ◌≤◌, ◌≢◌, List, length, set, sym, refl, ap, ◌∙◌, arith}
use Rattle.rules.specs.declared.Group.{Group}
use Rattle.rules.specs.Sizes.{slot_count, group_count, hart_count}
use Rattle.rules.specs.Model.{hart_at, group_at, no_group}
use Rattle.rules.specs.Moves.{set_group, resize}
use Rattle.promises.specs.Order.Chains.{on_core}
use Rattle.words.specs.declared.queue.RingAt.{RingAt}
use Rattle.words.specs.Layout.{slot_columns, columns, size_column, count_column, place_column, head_cell, tail_cell, init_cell, pids_cell, cells, hart_cell, column_number, cell_number, column_at, cell_at, word_count, column, cell}
use Rattle.words.specs.Reading.{queue_at, run_queue, slots_of, harts_of, group_of, groups_of, core_of, books_of, table_of, parent_of, parent_word, InTable}
use Rattle.words.specs.Effects.{on_books, with_hart, with_init, with_pids, recount}
use Rattle.words.proofs.Places.{in_columns, column-range, cell-range, column-here, column-there, cell-kept, cell-here, cell-there, column-kept}
use Rattle.words.proofs.Tabs.{get_d-tab, tab-set}
use Rattle.words.proofs.Fresh.{parent-back}
use Rattle.words.proofs.Changes.{group_then}
use Rattle.words.proofs.Rows.{group-is, books-is, core_is, table_is, slots_kept, groups-kept, queue-kept, harts-kept}

-- ---- reading
pub group_law : (w : List ℕ) (g : ℕ) → g < group_count → group_of w g ≡ group_at (table_of w).books g
unfolding table_of books_of groups_of
group_law w g b = sym (get_d-tab group_count (group_of w) g no_group b)

pub hart_law : (w : List ℕ) (h : ℕ) → h < hart_count → parent_of (cell w (hart_cell h)) ≡ hart_at (table_of w).core h
unfolding table_of core_of harts_of
hart_law w h b = sym (get_d-tab hart_count (λ i. parent_of (cell w (hart_cell i))) h None b)

pub init_law : (w : List ℕ) → parent_of (cell w init_cell) ≡ (table_of w).books.init
unfolding table_of books_of
init_law w = refl

pub pids_law : (w : List ℕ) → cell w pids_cell ≡ (table_of w).books.pids
unfolding table_of books_of
pids_law w = refl

-- ---- a store in a cell leaves every column alone
module _ (w : List ℕ) (k v : ℕ) where
  cell-slots : slots_of (set w (cell_at k) v) ≡ slots_of w
  cell-slots = slots_kept w _ (λ f s a b. column-kept w k v f s (omega arith) b)

  cell-groups : groups_of (set w (cell_at k) v) ≡ groups_of w
  cell-groups = groups-kept w _ (λ g b. column-kept w k v size_column g (omega arith) b) (λ g b. column-kept w k v count_column g (omega arith) b)

  -- .. and every queue whose counts stand in other cells
  pub cell-queue : (r : RingAt) → cell_number r.head ≢ k → cell_number r.tail ≢ k → queue_at r (set w (cell_at k) v) ≡ queue_at r w
  cell-queue r m n = queue-kept w _ r (λ p c. column-kept w k v (column_number r.places) p (in_columns r.places) c) (cell-there w k v (cell_number r.head) m) (cell-there w k v (cell_number r.tail) n)

module _ (w : List ℕ) (lw : length w ≡ word_count) where
  in_words : (k : ℕ) → k < cells + hart_count → cell_at k < length w
  in_words k b = omega (arith, lw, cell-range k b)

  pub set_hart_law : (h : ℕ) (p : Option Slot) → h < hart_count → InTable p → table_of (set w (cell_at (hart_cell h)) (parent_word p)) ≡ on_core (with_hart h p) (table_of w)
  unfolding table_of core_of books_of harts_of on_core with_hart
  set_hart_law h p b t =
      table_is
      (core_is (cell-slots w (hart_cell h) v)
      (cell-queue w (hart_cell h) v run_queue (λ e. omega arith) (λ e. omega arith))
      (tab-set hart_count (λ i. parent_of (cell w (hart_cell i))) (λ i. parent_of (cell (set w (cell_at (hart_cell h)) v) (hart_cell i))) h p None b
      (ap parent_of (cell-here w (hart_cell h) v (in_words (hart_cell h) (omega arith))) ∙ parent-back p t)
      (λ i _ n. ap parent_of (cell-there w (hart_cell h) v (hart_cell i) (λ f. n (omega arith))))))
      (books-is (cell-groups w (hart_cell h) v) (ap parent_of (apart init_cell (omega arith))) (apart pids_cell (omega arith)))
    where
      v : ℕ
      v = parent_word p

      apart : (j : ℕ) → j < cells → cell (set w (cell_at (hart_cell h)) v) j ≡ cell w j
      apart j l = cell-there w (hart_cell h) v j (λ f. omega arith)

  -- a store in the cell of init or of the pid counter leaves the scheduler's part alone
  books-cell : (k v : ℕ) → init_cell ≤ k → k < cells → core_of (set w (cell_at k) v) ≡ core_of w
  unfolding core_of
  books-cell k v l m =
      core_is (cell-slots w k v)
      (cell-queue w k v run_queue (λ e. omega arith) (λ e. omega arith))
      (harts-kept w _ (λ h b. cell-there w k v (hart_cell h) (λ e. omega arith)))

  pub set_init_law : (p : Option Slot) → InTable p → table_of (set w (cell_at init_cell) (parent_word p)) ≡ on_books (with_init p) (table_of w)
  unfolding table_of books_of on_books with_init
  set_init_law p t = table_is (books-cell init_cell (parent_word p) (omega arith) (omega arith))
      (books-is (cell-groups w init_cell _) (ap parent_of (cell-here w init_cell _ (in_words init_cell (omega arith))) ∙ parent-back p t) (cell-there w init_cell _ pids_cell (λ f. omega arith)))

  pub set_pids_law : (v : ℕ) → table_of (set w (cell_at pids_cell) v) ≡ on_books (with_pids v) (table_of w)
  unfolding table_of books_of on_books with_pids
  set_pids_law v = table_is (books-cell pids_cell v (omega arith) (omega arith))
      (books-is (cell-groups w pids_cell v) (ap parent_of (cell-there w pids_cell v init_cell (λ f. omega arith))) (cell-here w pids_cell v (in_words pids_cell (omega arith))))

-- ---- a store in a column of the groups, which lie between the slots' and the places'
module _ (w : List ℕ) (lw : length w ≡ word_count) (g : ℕ) (gb : g < group_count) where
  small : g < slot_count
  unfolding group_count
  small = gb

  group-store : (f n : ℕ) (x : Group) → slot_columns ≤ f → f < place_column → group_of (set w (column_at f g) n) g ≡ x → table_of (set w (column_at f g) n) ≡ on_books (set_group g x) (table_of w)
  unfolding table_of core_of books_of groups_of on_books
  group-store f n x l m e =
      table_is
      (core_is (slots_kept w _ (λ h s a b. column-there w f g n h s small b (λ z. omega (arith, z.0))))
      (queue-kept w _ run_queue (λ p b. column-there w f g n place_column p small b (λ z. omega (arith, z.0))) (apart head_cell) (apart tail_cell))
      (harts-kept w _ (λ h b. apart (hart_cell h))))
      (books-is (tab-set group_count (group_of w) (group_of (set w (column_at f g) n)) g x no_group gb e (λ i b z. group-is (other size_column i b z) (other count_column i b z)))
      (ap parent_of (apart init_cell))
      (apart pids_cell))
    where
      apart : (k : ℕ) → cell (set w (column_at f g) n) k ≡ cell w k
      apart k = cell-kept w f g n k (omega arith) small

      other : (h i : ℕ) → i < group_count → i ≢ g → column (set w (column_at f g) n) h i ≡ column w h i
      other h i b z = column-there w f g n h i small (unfold group_count in b) (λ y. z (sym y.1))

  here : (f n : ℕ) → f < columns → column (set w (column_at f g) n) f g ≡ n
  here f n b = column-here w f g n (omega (arith, lw, column-range f g b small))

  there : (f n h : ℕ) → f ≢ h → column (set w (column_at f g) n) h g ≡ column w h g
  there f n h z = column-there w f g n h g small small (λ e. z e.0)

  pub set_size_law : (n : ℕ) → table_of (set w (column_at size_column g) n) ≡ on_books (resize g n) (table_of w)
  unfolding resize on_books
  set_size_law n = group-store size_column n _ (omega arith) (omega arith)
      (group-is (here size_column n (omega arith)) (there size_column n count_column (λ e. omega arith) ∙ ap (λ (x : Group). x.count) (group_law w g gb)))

  pub set_count_law : (n : ℕ) → table_of (set w (column_at count_column g) n) ≡ on_books (recount g n) (table_of w)
  unfolding recount on_books
  set_count_law n = group-store count_column n _ (omega arith) (omega arith)
      (group-is (there count_column n size_column (λ e. omega arith) ∙ ap (λ (x : Group). x.size) (group_law w g gb)) (here count_column n (omega arith)))

-- what the functions of src/book.rt are proved by
pub ruleset book_laws = (group_law, hart_law, init_law, pids_law, set_hart_law, set_init_law, set_pids_law, set_size_law, set_count_law, group_then)
