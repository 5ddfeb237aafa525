-- Words do not get in each other's way: what a store at one place leaves of all others.
use Rattle.std.proofs.Common.{◌≡◌, ℕ, ◌+◌, ◌*◌, ◌<◌, Bool, true, false, leb, ◌≢◌, List, length, set, sym, refl, ap, mul-le-mul_right, arith, rules, get_or-set_other, get_or-set_same, leb-false, leb-true}
use Rattle.rules.specs.Sizes.{slot_count, hart_count}
use Rattle.words.specs.declared.layout.Column.{Column}
use Rattle.words.specs.declared.layout.Cell.{Cell}
use Rattle.words.specs.Layout.{columns, cells, column_number, cell_number, column_at, cell_at, word_count, column, cell}

pub in_columns : (f : Column) → column_number f < columns
in_columns f = search rules

pub in_cells : (k : Cell) → cell_number k < cells + hart_count
unfolding hart_count
in_cells k = search rules

-- a lower column lies wholly before a higher one
before : (n f g s i : ℕ) → s < n → f < g → f * n + s < g * n + i
before n f g s i b l = omega (arith, mul-le-mul_right n l)

-- a place is a column and a slot, in one way only
pub one_way : (n f g s i : ℕ) → s < n → i < n → f * n + s ≡ g * n + i → (f ≡ g) × (s ≡ i)
one_way n f g s i b c e = go (leb f g) refl (leb g f) refl
  where
    go : (x : Bool) → leb f g ≡ x → (y : Bool) → leb g f ≡ y → (f ≡ g) × (s ≡ i)
    go true p true q =
        let z : f ≡ g = omega (arith, leb-true f g p, leb-true g f q) in
        (z, omega (arith, e, ap (λ (k : ℕ). k * n) z))
    go x p false q = absurd (omega (arith, before n f g s i b (leb-false g f q)))
    go false p true q = absurd (omega (arith, before n g f i s c (leb-false f g p)))

module _ (f s : ℕ) (fb : f < columns) (sb : s < slot_count) where
  below-cells : column_at f s < columns * slot_count
  unfolding column_at
  below-cells = omega (arith, mul-le-mul_right slot_count fb)

  pub column-range : column_at f s < word_count
  unfolding word_count
  column-range = omega (arith, below-cells)

  pub column-cell : (k : ℕ) → column_at f s ≢ cell_at k
  unfolding cell_at
  column-cell k e = omega (arith, below-cells)

pub cell-range : (k : ℕ) → k < cells + hart_count → cell_at k < word_count
unfolding cell_at word_count
cell-range k b = omega arith

module _ (w : List ℕ) (f s v : ℕ) where
  pub column-here : column_at f s < length w → column (set w (column_at f s) v) f s ≡ v
  unfolding column
  column-here b = get_or-set_same w (column_at f s) v 0 b

  pub column-there : (g i : ℕ) → s < slot_count → i < slot_count → ((f ≡ g) × (s ≡ i) → ⊥) → column (set w (column_at f s) v) g i ≡ column w g i
  unfolding column column_at
  column-there g i b c n = get_or-set_other w _ _ v 0 (λ e. let o = one_way slot_count g f i s c b e in n (sym o.0, sym o.1))

  pub cell-kept : (k : ℕ) → f < columns → s < slot_count → cell (set w (column_at f s) v) k ≡ cell w k
  unfolding cell
  cell-kept k a b = get_or-set_other w (column_at f s) (cell_at k) v 0 (λ e. column-cell f s a b k (sym e))

module _ (w : List ℕ) (k v : ℕ) where
  pub cell-here : cell_at k < length w → cell (set w (cell_at k) v) k ≡ v
  unfolding cell
  cell-here b = get_or-set_same w (cell_at k) v 0 b

  pub cell-there : (j : ℕ) → j ≢ k → cell (set w (cell_at k) v) j ≡ cell w j
  unfolding cell cell_at
  cell-there j n = get_or-set_other w _ _ v 0 (λ e. n (omega arith))

  pub column-kept : (f s : ℕ) → f < columns → s < slot_count → column (set w (cell_at k) v) f s ≡ column w f s
  unfolding column
  column-kept f s a b = get_or-set_other w (cell_at k) (column_at f s) v 0 (column-cell f s a b k)
