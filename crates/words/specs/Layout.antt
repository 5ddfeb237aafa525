-- Where each word stands: a column for each field, with a word for each slot (or group, or place of the ring), then single cells, then the harts.
use Rattle.std.specs.Prelude.{ℕ, ◌+◌, ◌*◌, List, slice_index}
use Rattle.rules.specs.Sizes.{slot_count, hart_count}
use Rattle.words.specs.declared.layout.Column.{Column}
use Rattle.words.specs.declared.layout.Cell.{Cell}
use Rattle.words.specs.declared.layout.Column.TheVariants.{State, Channel, Killed, Xstate, Pid, Queued, Group, Parent, Thread, System, Below, Sp, Entry, Top, Arg, Ret, Name0, Name1, Size, Count, Place}
use Rattle.words.specs.declared.layout.Cell.TheVariants.{Head, Tail, Init, Pids}

-- of a slot: its meta,
abbrev pub state_column : ℕ
state_column = 0

abbrev pub channel_column : ℕ
channel_column = 1

abbrev pub killed_column : ℕ
killed_column = 2

abbrev pub xstate_column : ℕ
xstate_column = 3

abbrev pub pid_column : ℕ
pid_column = 4

abbrev pub queued_column : ℕ
queued_column = 5

-- its kin,
abbrev pub group_column : ℕ
group_column = 6

abbrev pub parent_column : ℕ
parent_column = 7

abbrev pub thread_column : ℕ
thread_column = 8

abbrev pub system_column : ℕ
system_column = 9

-- its start
abbrev pub below_column : ℕ
below_column = 10

abbrev pub sp_column : ℕ
sp_column = 11

abbrev pub entry_column : ℕ
entry_column = 12

abbrev pub top_column : ℕ
top_column = 13

abbrev pub arg_column : ℕ
arg_column = 14

abbrev pub ret_column : ℕ
ret_column = 15

abbrev pub name0_column : ℕ
name0_column = 16

abbrev pub name1_column : ℕ
name1_column = 17

abbrev pub slot_columns : ℕ
slot_columns = 18

-- of a group
abbrev pub size_column : ℕ
size_column = slot_columns

abbrev pub count_column : ℕ
count_column = slot_columns + 1

-- of a place of the ring
abbrev pub place_column : ℕ
place_column = slot_columns + 2

abbrev pub columns : ℕ
columns = slot_columns + 3

abbrev pub column_number : Column → ℕ
column_number State = state_column
column_number Channel = channel_column
column_number Killed = killed_column
column_number Xstate = xstate_column
column_number Pid = pid_column
column_number Queued = queued_column
column_number Group = group_column
column_number Parent = parent_column
column_number Thread = thread_column
column_number System = system_column
column_number Below = below_column
column_number Sp = sp_column
column_number Entry = entry_column
column_number Top = top_column
column_number Arg = arg_column
column_number Ret = ret_column
column_number Name0 = name0_column
column_number Name1 = name1_column
column_number Size = size_column
column_number Count = count_column
column_number Place = place_column

unfoldable pub column_at : ℕ → ℕ → ℕ
column_at f s = f * slot_count + s

-- the cells: head, tail, init, pids; then a cell for each hart
abbrev pub head_cell : ℕ
head_cell = 0

abbrev pub tail_cell : ℕ
tail_cell = 1

abbrev pub init_cell : ℕ
init_cell = 2

abbrev pub pids_cell : ℕ
pids_cell = 3

abbrev pub cells : ℕ
cells = 4

abbrev pub cell_number : Cell → ℕ
cell_number Head = head_cell
cell_number Tail = tail_cell
cell_number Init = init_cell
cell_number Pids = pids_cell

abbrev pub hart_cell : ℕ → ℕ
hart_cell h = cells + h

unfoldable pub cell_at : ℕ → ℕ
cell_at k = columns * slot_count + k

unfoldable pub word_count : ℕ
word_count = columns * slot_count + cells + hart_count

-- ---- reading
unfoldable pub column : List ℕ → ℕ → ℕ → ℕ
column w f s = slice_index w (column_at f s)

unfoldable pub cell : List ℕ → ℕ → ℕ
cell w k = slice_index w (cell_at k)
