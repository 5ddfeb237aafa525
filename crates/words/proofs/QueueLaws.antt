-- A ring in the words is a queue, wherever it stands; the run queue is the queue of the table that they hold.
use Rattle.std.proofs.Common.{◌≡◌, ℕ, suc, ◌+◌, ◌-◌, ◌%◌, ◌<◌, ◌≤◌, ◌≢◌, List, [], ◌∷◌, ◌++◌, length, get_or, set, sym, refl, ap, ◌∙◌, add-zero, mod-lt, mod-eq_of_lt, arith, length-set}
use Rattle.rules.specs.Sizes.{slot_count}
use Rattle.promises.specs.Laws.Ring.{Holds, length_of, queue_of, push, pop, head_of, queue-count, push-queue, pop-queue, queue-at, port-rounds}
use Rattle.promises.specs.Order.Chains.{on_core}
use Rattle.words.specs.declared.queue.RingAt.{RingAt}
use Rattle.words.specs.Layout.{columns, size_column, count_column, place_column, head_cell, tail_cell, init_cell, pids_cell, hart_cell, column_number, cell_number, column_at, word_count, column, cell}
use Rattle.words.specs.Reading.{turns, count_at, place_at, places_of, ring_of, queue_at, run_queue, core_of, books_of, table_of, parent_of}
use Rattle.words.specs.Effects.{with_queue, enqueue, Popped, pushed, popped}
use Rattle.words.proofs.Places.{in_columns, in_cells, column-range, cell-range, column-here, column-there, cell-kept, cell-here, cell-there, column-kept}
use Rattle.words.proofs.Tabs.{length-tab, get_d-tab, tab-set}
use Rattle.words.proofs.Rows.{ring-is, books-is, core_is, table_is, slots_kept, groups-kept, places-kept, harts-kept}

place_in : (n : ℕ) → n % slot_count < slot_count
place_in n = mod-lt n port-rounds.some

module _ (r : RingAt) (w : List ℕ) where
  -- how many wait: the wrapping difference of the two counts
  pub waiting_law : (count_at w r.tail + (turns - count_at w r.head)) % turns ≡ length (queue_at r w)
  unfolding queue_at length_of ring_of
  waiting_law = sym (queue-count slot_count turns (ring_of r w))

  -- a queue no longer than the places stands in the ring as it must: nothing more is asked of the words
  ring-holds : (k : ℕ) → length (queue_at r w) ≡ k → k ≤ slot_count → Holds slot_count turns (ring_of r w) k
  unfolding ring_of places_of count_at
  ring-holds k e f = record {
    size = length-tab slot_count _;
    low = omega arith;
    ends = omega (arith, waiting_law);
    room = f;
  }

  -- who waits at place i of the queue
  pub place-law : (i : ℕ) → length (queue_at r w) ≤ slot_count → i < length (queue_at r w) → place_at r w i ≡ get_or (queue_at r w) i 0
  unfolding queue_at ring_of places_of place_at
  place-law i fits l =
      sym (queue-at slot_count turns port-rounds (ring_of r w) (length (queue_at r w)) (ring-holds _ refl fits) i l
      ∙ get_d-tab slot_count (λ p. column w (column_number r.places) p % slot_count) ((count_at w r.head + i) % slot_count) 0 (place_in _))

-- ---- a push and a pop
module _ (r : RingAt) (o : cell_number r.head ≢ cell_number r.tail) (w : List ℕ) where
  module _ (s : ℕ) where
    pub pushed-column : (f i : ℕ) → f < columns → i < slot_count → ((column_number r.places ≡ f) × (count_at w r.tail % slot_count ≡ i) → ⊥) → column (pushed r s w) f i ≡ column w f i
    unfolding pushed
    pushed-column f i a b n = column-kept _ (cell_number r.tail) _ f i a b ∙ column-there w (column_number r.places) _ s f i (place_in _) b n

    pub pushed-cell : (k : ℕ) → k ≢ cell_number r.tail → cell (pushed r s w) k ≡ cell w k
    unfolding pushed
    pushed-cell k n = cell-there _ (cell_number r.tail) _ k n ∙ cell-kept w (column_number r.places) _ s k (in_columns r.places) (place_in _)

    pub pushed-queue : length w ≡ word_count → s < slot_count → length (queue_at r w) < slot_count → queue_at r (pushed r s w) ≡ queue_at r w ++ (s ∷ [])
    unfolding queue_at
    pushed-queue lw sb room = ap (queue_of slot_count turns) ring ∙ push-queue slot_count turns port-rounds (ring_of r w) (length (queue_at r w)) (ring-holds r w (length (queue_at r w)) refl (omega arith)) s room
      where
        p : ℕ
        p = count_at w r.tail % slot_count

        u : List ℕ
        u = set w (column_at (column_number r.places) p) s

        here : column (pushed r s w) (column_number r.places) p % slot_count ≡ s
        here = unfold pushed in ap (λ (x : ℕ). x % slot_count) (column-kept u (cell_number r.tail) _ (column_number r.places) p (in_columns r.places) (place_in _)
            ∙ column-here w (column_number r.places) p s (omega (arith, lw, column-range (column_number r.places) p (in_columns r.places) (place_in _)))) ∙ mod-eq_of_lt sb

        tail : count_at (pushed r s w) r.tail ≡ (count_at w r.tail + 1) % turns
        tail = unfold pushed count_at in ap (λ (x : ℕ). x % turns) (cell-here u (cell_number r.tail) _ (omega (arith, lw, length-set w (column_at (column_number r.places) p) s, cell-range (cell_number r.tail) (in_cells r.tail)))) ∙ mod-eq_of_lt (omega arith)

        ring : ring_of r (pushed r s w) ≡ push slot_count turns s (ring_of r w)
        ring = unfold ring_of push places_of in ring-is
            (tab-set slot_count (λ i. column w (column_number r.places) i % slot_count) (λ i. column (pushed r s w) (column_number r.places) i % slot_count) p s 0 (place_in _) here
            (λ i b n. ap (λ (x : ℕ). x % slot_count) (pushed-column (column_number r.places) i (in_columns r.places) b (λ e. n (sym e.1)))))
            (unfold count_at in ap (λ (x : ℕ). x % turns) (pushed-cell (cell_number r.head) o)) tail

  pub popped-column : (f i : ℕ) → f < columns → i < slot_count → column (popped r w) f i ≡ column w f i
  unfolding popped
  popped-column f i a b = column-kept w (cell_number r.head) _ f i a b

  pub popped-cell : (k : ℕ) → k ≢ cell_number r.head → cell (popped r w) k ≡ cell w k
  unfolding popped
  popped-cell k n = cell-there w (cell_number r.head) _ k n

  -- the head leaves, and the rest stays
  pub popped-queue : length w ≡ word_count → 0 < length (queue_at r w) → length (queue_at r w) ≤ slot_count → queue_at r w ≡ place_at r w 0 ∷ queue_at r (popped r w)
  unfolding queue_at head_of ring_of places_of
  popped-queue lw some fits = pop-queue slot_count turns port-rounds (ring_of r w) k (ring-holds r w (suc k) (omega arith) (omega arith)) ∙ λ i. first i ∷ queue_of slot_count turns (sym ring i)
    where
      k : ℕ
      k = length (queue_at r w) - 1

      first : head_of slot_count (ring_of r w) ≡ place_at r w 0
      first = unfold place_at in rw (add-zero) (get_d-tab slot_count (λ p. column w (column_number r.places) p % slot_count) (count_at w r.head % slot_count) 0 (place_in _))

      ring : ring_of r (popped r w) ≡ pop turns (ring_of r w)
      ring = unfold pop in ring-is (places-kept w (popped r w) r (λ p b. popped-column (column_number r.places) p (in_columns r.places) b))
          (unfold popped count_at in ap (λ (x : ℕ). x % turns) (cell-here w (cell_number r.head) _ (omega (arith, lw, cell-range (cell_number r.head) (in_cells r.head)))) ∙ mod-eq_of_lt (omega arith))
          (unfold count_at in ap (λ (x : ℕ). x % turns) (popped-cell (cell_number r.tail) (λ e. o (sym e))))

-- ---- the run queue
pub run_queue_law : (w : List ℕ) → (table_of w).core.queue ≡ queue_at run_queue w
unfolding table_of core_of
run_queue_law w = refl

pub queued_law : (w : List ℕ) (i : ℕ) → length (table_of w).core.queue ≤ slot_count → i < length (table_of w).core.queue → place_at run_queue w i ≡ get_or (table_of w).core.queue i 0
unfolding table_of core_of
queued_law w = place-law run_queue w

apart : head_cell ≢ tail_cell
apart e = omega arith

-- words that differ in the ring alone hold tables that differ in the queue alone
queue-only : (w u : List ℕ) → ((f i : ℕ) → f < columns → i < slot_count → place_column ≢ f → column u f i ≡ column w f i) → ((k : ℕ) → init_cell ≤ k → cell u k ≡ cell w k)
    → table_of u ≡ on_core (with_queue (queue_at run_queue u)) (table_of w)
unfolding table_of core_of books_of on_core with_queue
queue-only w u h k =
    table_is
    (core_is (slots_kept w u (λ f i a b. h f i (omega arith) b (λ e. omega arith))) refl (harts-kept w u (λ i b. k (hart_cell i) (omega arith))))
    (books-is (groups-kept w u (λ g b. h size_column g (omega arith) b (λ e. omega arith)) (λ g b. h count_column g (omega arith) b (λ e. omega arith)))
    (ap parent_of (k init_cell (omega arith))) (k pids_cell (omega arith)))

module _ (w : List ℕ) (lw : length w ≡ word_count) where
  pub push_law : (s : ℕ) → s < slot_count → length (table_of w).core.queue < slot_count → table_of (pushed run_queue s w) ≡ on_core (enqueue s) (table_of w)
  unfolding table_of core_of on_core enqueue
  push_law s sb room =
      queue-only w _ (λ f i a b n. pushed-column run_queue apart w s f i a b (λ e. n e.0)) (λ k b. pushed-cell run_queue apart w s k (λ e. omega arith))
      ∙ ap (λ (q : List ℕ). on_core (with_queue q) (table_of w)) (pushed-queue run_queue apart w s lw sb room)

  pub pop_law : 0 < length (table_of w).core.queue → length (table_of w).core.queue ≤ slot_count → Popped (table_of w) (place_at run_queue w 0) (table_of (popped run_queue w))
  unfolding table_of core_of
  pop_law some fits = record {
    head = popped-queue run_queue apart w lw some fits;
    rest = queue-only w _ (λ f i a b n. popped-column run_queue apart w f i a b) (λ k b. popped-cell run_queue apart w k (λ e. omega arith));
    range = unfold place_at in place_in _;
  }

-- what the functions of src/queue.rt are proved by
pub ruleset queue_laws = (waiting_law, queued_law, run_queue_law, push_law, pop_law)
