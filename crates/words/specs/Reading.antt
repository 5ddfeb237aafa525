-- The table that the words hold. Every list of words holds one.
use Rattle.std.specs.Prelude.{ℕ, zero, suc, ◌+◌, ◌-◌, ◌/◌, ◌%◌, ◌^◌, Bool, cond, not, List, [], ◌∷◌, ◌++◌, ◌==◌, slice_index, Option, Some, None}
use Rattle.rules.specs.declared.Slot.{Slot}
use Rattle.rules.specs.declared.ProcState.{ProcState}
use Rattle.rules.specs.declared.ProcState.TheVariants.{UNUSED, ALLOCATED, RUNNABLE, RUNNING, SLEEPING, ZOMBIE}
use Rattle.rules.specs.declared.ProcMeta.{ProcMeta}
use Rattle.rules.specs.declared.Kin.{Kin}
use Rattle.rules.specs.declared.Start.{Start}
use Rattle.rules.specs.declared.Process.{Process}
use Rattle.rules.specs.declared.Group.{Group}
use Rattle.rules.specs.Sizes.{slot_count, group_count, hart_count, trapframe}
use Rattle.rules.specs.Model.{Core, Books, Table, pid, slot}
use Rattle.promises.specs.Laws.Ring.{Ring, queue_of}
pub use Rattle.promises.specs.Order.Sound.{InTable, InGroups}
use Rattle.words.specs.declared.slot.StartWords.{StartWords}
use Rattle.words.specs.declared.layout.Cell.{Cell}
use Rattle.words.specs.declared.layout.Cell.TheVariants.{Head, Tail}
use Rattle.words.specs.declared.layout.Column.TheVariants.{Place}
use Rattle.words.specs.declared.queue.RingAt.{RingAt}
use Rattle.words.specs.Layout.{state_column, channel_column, killed_column, xstate_column, pid_column, queued_column, group_column, parent_column, thread_column, system_column, below_column, sp_column, entry_column, top_column, arg_column, ret_column, name0_column, name1_column, slot_columns, size_column, count_column, column_number, cell_number, init_cell, pids_cell, hart_cell, column, cell}

-- f k, f (k + 1), .., n of them
unfoldable pub tab_from : {A : Type 0} → ℕ → ℕ → (ℕ → A) → List A
tab_from zero k f = []
tab_from (suc n) k f = f k ∷ tab_from n (suc k) f

unfoldable pub tab : {A : Type 0} → ℕ → (ℕ → A) → List A
tab n f = tab_from n 0 f

-- ---- what one word means
abbrev pub state_of : ℕ → ProcState
state_of n = cond (n == 1) ALLOCATED (cond (n == 2) RUNNABLE (cond (n == 3) RUNNING (cond (n == 4) SLEEPING (cond (n == 5) ZOMBIE UNUSED))))

abbrev pub flag_of : ℕ → Bool
flag_of n = not (n == 0)

abbrev pub parent_of : ℕ → Option Slot
parent_of n = cond (n == 0) None (Some (slot ((n - 1) % slot_count)))

abbrev pub member_of : ℕ → Option ℕ
member_of n = cond (n == 0) None (Some ((n - 1) % group_count))

-- eight bytes, the lowest first
unfoldable pub bytes_of : ℕ → List ℕ
bytes_of n = tab 8 (λ i. n / 256 ^ i % 256)

-- ---- the word for a meaning: no is 0, yes is 1; none is 0, a slot or a group one more than its number
abbrev pub flag_word : Bool → ℕ
flag_word b = cond b 1 0

abbrev pub parent_word : Option Slot → ℕ
parent_word None = 0
parent_word (Some s) = s.0 + 1

abbrev pub member_word : Option ℕ → ℕ
member_word None = 0
member_word (Some g) = g + 1

-- ---- one slot
-- the words of slot s, one for each column
unfoldable pub row_of : List ℕ → ℕ → List ℕ
row_of w s = tab slot_columns (λ f. column w f s)

abbrev pub meta_of : List ℕ → ProcMeta
meta_of r = record { state = state_of (slice_index r state_column); channel = slice_index r channel_column; killed = flag_of (slice_index r killed_column); xstate = slice_index r xstate_column; pid = pid (slice_index r pid_column); queued = flag_of (slice_index r queued_column) }

abbrev pub kin_of : List ℕ → Kin
kin_of r = record { group = member_of (slice_index r group_column); parent = parent_of (slice_index r parent_column); thread = flag_of (slice_index r thread_column); system = flag_of (slice_index r system_column) }

-- the trapframe stands as its distance below TRAPFRAME, the name in two words
abbrev pub start_of : StartWords → Start
start_of b = record {
  trapframe = trapframe - b.below;
  sp = b.sp;
  entry = b.entry;
  top = b.top;
  arg = b.arg;
  ret = b.ret;
  name = bytes_of b.name0 ++ bytes_of b.name1;
}

abbrev pub start_words_of : List ℕ → StartWords
start_words_of r = record {
  below = slice_index r below_column;
  sp = slice_index r sp_column;
  entry = slice_index r entry_column;
  top = slice_index r top_column;
  arg = slice_index r arg_column;
  ret = slice_index r ret_column;
  name0 = slice_index r name0_column;
  name1 = slice_index r name1_column;
}

unfoldable pub process_of : List ℕ → Process
process_of r = record { meta = meta_of r; kin = kin_of r; start = start_of (start_words_of r) }

-- ---- a ring, wherever it stands
-- the range of a running count
abbrev pub turns : ℕ
turns = 2 ^ 32

unfoldable pub count_at : List ℕ → Cell → ℕ
count_at w k = cell w (cell_number k) % turns

-- what the place holds that is i past the head
unfoldable pub place_at : RingAt → List ℕ → ℕ → ℕ
place_at r w i = column w (column_number r.places) ((count_at w r.head + i) % slot_count) % slot_count

unfoldable pub places_of : RingAt → List ℕ → List ℕ
places_of r w = tab slot_count (λ p. column w (column_number r.places) p % slot_count)

unfoldable pub ring_of : RingAt → List ℕ → Ring
ring_of r w = record { places = places_of r w; head = count_at w r.head; tail = count_at w r.tail }

unfoldable pub queue_at : RingAt → List ℕ → List ℕ
queue_at r w = queue_of slot_count turns (ring_of r w)

abbrev pub run_queue : RingAt
run_queue = record { head = Head; tail = Tail; places = Place }

-- ---- the table
unfoldable pub slots_of : List ℕ → List Process
slots_of w = tab slot_count (λ s. process_of (row_of w s))

unfoldable pub harts_of : List ℕ → List (Option Slot)
harts_of w = tab hart_count (λ h. parent_of (cell w (hart_cell h)))

abbrev pub group_of : List ℕ → ℕ → Group
group_of w g = record { size = column w size_column g; count = column w count_column g }

unfoldable pub groups_of : List ℕ → List Group
groups_of w = tab group_count (group_of w)

unfoldable pub core_of : List ℕ → Core
core_of w = record { slots = slots_of w; queue = queue_at run_queue w; harts = harts_of w }

unfoldable pub books_of : List ℕ → Books
books_of w = record { groups = groups_of w; init = parent_of (cell w init_cell); pids = cell w pids_cell }

unfoldable pub table_of : List ℕ → Table
table_of w = record { core = core_of w; books = books_of w }
