-- A slot's words: what a store in a slot's column, or elsewhere, changes of the table that the words hold.
use Rattle.std.specs.Prelude.{Option, None}
use Rattle.rules.specs.declared.Slot.{Slot}
use Rattle.std.proofs.Common.{◌≡◌, ℕ, ◌%◌, ◌<◌, ◌≤◌, List, length, set, sym, refl, ap, ◌∙◌, arith, length-set}
use Rattle.rules.specs.declared.Process.{Process}
use Rattle.rules.specs.declared.Group.{Group}
use Rattle.rules.specs.Sizes.{slot_count, group_count, hart_count}
use Rattle.rules.specs.Model.{Core, Books, Table, at, free, no_group}
use Rattle.rules.specs.Moves.{change}
use Rattle.promises.specs.Laws.Ring.{Ring, queue_of}
use Rattle.promises.specs.Order.Chains.{on_core}
use Rattle.words.specs.declared.queue.RingAt.{RingAt}
use Rattle.words.specs.Layout.{slot_columns, size_column, count_column, init_cell, pids_cell, hart_cell, column_number, cell_number, column_at, word_count, column, cell}
use Rattle.words.specs.Reading.{row_of, process_of, turns, count_at, places_of, ring_of, queue_at, run_queue, slots_of, harts_of, group_of, groups_of, core_of, books_of, table_of, parent_of}
use Rattle.words.proofs.Places.{column-range, column-here, column-there, cell-kept}
use Rattle.words.proofs.Tabs.{get_d-tab, tab-same, tab-set}

-- ---- records, part by part
pub ring-is : {a b : List ℕ} {h k t u : ℕ} → a ≡ b → h ≡ k → t ≡ u → ◌≡◌ {A = Ring} (record { places = a; head = h; tail = t }) (record { places = b; head = k; tail = u })
ring-is p q h = λ i. record { places = p i; head = q i; tail = h i }

pub group-is : {m n j k : ℕ} → m ≡ n → j ≡ k → ◌≡◌ {A = Group} (record { size = m; count = j }) (record { size = n; count = k })
group-is p q = λ i. record { size = p i; count = q i }

pub books-is : {a b : List Group} {p q : Option Slot} {m n : ℕ} → a ≡ b → p ≡ q → m ≡ n → ◌≡◌ {A = Books} (record { groups = a; init = p; pids = m }) (record { groups = b; init = q; pids = n })
books-is a p m = λ i. record { groups = a i; init = p i; pids = m i }

pub core_is : {a b : List Process} {q r : List ℕ} {x y : List (Option Slot)} → a ≡ b → q ≡ r → x ≡ y → ◌≡◌ {A = Core} (record { slots = a; queue = q; harts = x }) (record { slots = b; queue = r; harts = y })
core_is p q h = λ i. record { slots = p i; queue = q i; harts = h i }

pub table_is : {c d : Core} {a b : Books} → c ≡ d → a ≡ b → ◌≡◌ {A = Table} (record { core = c; books = a }) (record { core = d; books = b })
table_is p q = λ i. record { core = p i; books = q i }

-- ---- what a change of the words leaves alone: u agrees with w on those columns, or cells
module _ (w u : List ℕ) where
  pub slots_kept : ((f s : ℕ) → f < slot_columns → s < slot_count → column u f s ≡ column w f s) → slots_of u ≡ slots_of w
  unfolding slots_of row_of
  slots_kept h = tab-same slot_count _ _ free (λ s b. ap process_of (tab-same slot_columns _ _ 0 (λ f a. h f s a b)))

  pub groups-kept : ((g : ℕ) → g < slot_count → column u size_column g ≡ column w size_column g) → ((g : ℕ) → g < slot_count → column u count_column g ≡ column w count_column g)
      → groups_of u ≡ groups_of w
  unfolding groups_of group_count
  groups-kept h k = tab-same slot_count (group_of u) (group_of w) no_group (λ g b. group-is (h g b) (k g b))

  pub places-kept : (r : RingAt) → ((p : ℕ) → p < slot_count → column u (column_number r.places) p ≡ column w (column_number r.places) p) → places_of r u ≡ places_of r w
  unfolding places_of
  places-kept r h = tab-same slot_count _ _ 0 (λ p b. ap (λ (x : ℕ). x % slot_count) (h p b))

  pub queue-kept : (r : RingAt) → ((p : ℕ) → p < slot_count → column u (column_number r.places) p ≡ column w (column_number r.places) p) → cell u (cell_number r.head) ≡ cell w (cell_number r.head) → cell u (cell_number r.tail) ≡ cell w (cell_number r.tail)
      → queue_at r u ≡ queue_at r w
  unfolding queue_at ring_of count_at
  queue-kept r h a b = ap (queue_of slot_count turns) (ring-is (places-kept r h) (ap (λ (x : ℕ). x % turns) a) (ap (λ (x : ℕ). x % turns) b))

  pub harts-kept : ((h : ℕ) → h < hart_count → cell u (hart_cell h) ≡ cell w (hart_cell h)) → harts_of u ≡ harts_of w
  unfolding harts_of
  harts-kept k = tab-same hart_count _ _ None (λ h b. ap parent_of (k h b))

-- ---- one slot's words: u is w but in slot s, whose words are r
pub record Row (w u : List ℕ) (s : ℕ) (r : List ℕ) : Type 0 where
  pub long : length u ≡ word_count
  pub here : row_of u s ≡ r
  pub other : (i : ℕ) → i < slot_count → (i ≡ s → ⊥) → row_of u i ≡ row_of w i
  pub queues : (r : RingAt) → slot_columns ≤ column_number r.places → queue_at r u ≡ queue_at r w
  pub harts : harts_of u ≡ harts_of w
  pub books : books_of u ≡ books_of w

pub row_here : (w : List ℕ) (s : ℕ) → length w ≡ word_count → Row w w s (row_of w s)
row_here w s l = record { long = l; here = refl; other = λ i b n. refl; queues = λ r b. refl; harts = refl; books = refl }

pub row_put : {w u : List ℕ} {s : ℕ} {r : List ℕ} (f v : ℕ) → f < slot_columns → s < slot_count → Row w u s r → Row w (set u (column_at f s) v) s (set r f v)
unfolding row_of books_of
row_put {w} {u} {s} {r} f v fb sb o = record {
  long = length-set u (column_at f s) v ∙ o.long;
  here = mine ∙ ap (λ (l : List ℕ). set l f v) o.here;
  other = λ i b n. tab-same slot_columns _ _ 0 (λ g a. column-there u f s v g i sb b (λ e. n (sym e.1))) ∙ o.other i b n;
  queues = λ r a. queue-kept u x r (λ p b. above (column_number r.places) p a b) (cells (cell_number r.head)) (cells (cell_number r.tail)) ∙ o.queues r a;
  harts = harts-kept u x (λ h b. cells (hart_cell h)) ∙ o.harts;
  books = books-is (groups-kept u x (λ g b. above size_column g (omega arith) b) (λ g b. above count_column g (omega arith) b)) (ap parent_of (cells init_cell)) (cells pids_cell) ∙ o.books;
}
  where
    x : List ℕ
    x = set u (column_at f s) v

    cells : (k : ℕ) → cell x k ≡ cell u k
    cells k = cell-kept u f s v k (omega arith) sb

    above : (g i : ℕ) → slot_columns ≤ g → i < slot_count → column x g i ≡ column u g i
    above g i a b = column-there u f s v g i sb b (λ e. omega (arith, e.0))

    mine : row_of x s ≡ set (row_of u s) f v
    mine = tab-set slot_columns (λ g. column u g s) (λ g. column x g s) f v 0 fb
        (column-here u f s v (omega (arith, o.long, column-range f s (omega arith) sb)))
        (λ g b n. column-there u f s v g s sb sb (λ e. n (sym e.0)))

pub at_row : (w : List ℕ) (s : ℕ) → s < slot_count → at (table_of w).core s ≡ process_of (row_of w s)
unfolding table_of core_of slots_of
at_row w s h = get_d-tab slot_count (λ i. process_of (row_of w i)) s free h

pub row-table : (w u : List ℕ) (s : ℕ) (r : List ℕ) (g : Process → Process) → s < slot_count → Row w u s r → process_of r ≡ g (process_of (row_of w s)) → table_of u ≡ on_core (change g s) (table_of w)
unfolding table_of change core_of slots_of on_core
row-table w u s r g sb o e =
    table_is
    (core_is
    (tab-set slot_count (λ i. process_of (row_of w i)) (λ i. process_of (row_of u i)) s (g (at (table_of w).core s)) free sb
    (ap process_of o.here ∙ e ∙ ap g (sym (at_row w s sb)))
    (λ i b n. ap process_of (o.other i b n)))
    (o.queues run_queue (omega arith)) o.harts)
    o.books
