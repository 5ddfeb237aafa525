-- What the accessors do to a table.
use Rattle.std.specs.Prelude.{◌≡◌, ℕ, ◌+◌, ◌%◌, ◌<◌, Bool, List, [], ◌∷◌, ◌++◌, slice_set, Option}
use Rattle.rules.specs.declared.Slot.{Slot}
use Rattle.rules.specs.declared.Pid.{Pid}
use Rattle.rules.specs.declared.ProcState.{ProcState}
use Rattle.rules.specs.declared.ProcMeta.{ProcMeta}
use Rattle.rules.specs.declared.Kin.{Kin}
use Rattle.rules.specs.declared.Start.{Start}
use Rattle.rules.specs.declared.Process.{Process}
use Rattle.rules.specs.Sizes.{slot_count}
use Rattle.rules.specs.Model.{Core, Books, Table, group_at}
use Rattle.rules.specs.Moves.{set_group}
use Rattle.promises.specs.Order.Chains.{on_core}
use Rattle.words.specs.declared.queue.RingAt.{RingAt}
use Rattle.words.specs.Layout.{column_number, cell_number, column_at, cell_at}
use Rattle.words.specs.Reading.{turns, count_at}

unfoldable pub on_books : (Books → Books) → Table → Table
on_books f t = record { core = t.core; books = f t.books }

-- one field of a slot's meta
abbrev pub with_state : ProcState → ProcMeta → ProcMeta
with_state a m = record { state = a; channel = m.channel; killed = m.killed; xstate = m.xstate; pid = m.pid; queued = m.queued }

abbrev pub with_channel : ℕ → ProcMeta → ProcMeta
with_channel n m = record { state = m.state; channel = n; killed = m.killed; xstate = m.xstate; pid = m.pid; queued = m.queued }

abbrev pub with_killed : Bool → ProcMeta → ProcMeta
with_killed b m = record { state = m.state; channel = m.channel; killed = b; xstate = m.xstate; pid = m.pid; queued = m.queued }

abbrev pub with_xstate : ℕ → ProcMeta → ProcMeta
with_xstate n m = record { state = m.state; channel = m.channel; killed = m.killed; xstate = n; pid = m.pid; queued = m.queued }

abbrev pub with_pid : Pid → ProcMeta → ProcMeta
with_pid n m = record { state = m.state; channel = m.channel; killed = m.killed; xstate = m.xstate; pid = n; queued = m.queued }

abbrev pub with_queued : Bool → ProcMeta → ProcMeta
with_queued b m = record { state = m.state; channel = m.channel; killed = m.killed; xstate = m.xstate; pid = m.pid; queued = b }

-- one part of a slot
abbrev pub with_meta : ProcMeta → Process → Process
with_meta m p = record { meta = m; kin = p.kin; start = p.start }

abbrev pub with_kin : Kin → Process → Process
with_kin k p = record { meta = p.meta; kin = k; start = p.start }

abbrev pub with_start : Start → Process → Process
with_start b p = record { meta = p.meta; kin = p.kin; start = b }

unfoldable pub with_hart : ℕ → Option Slot → Core → Core
with_hart h p c = record { slots = c.slots; queue = c.queue; harts = slice_set c.harts h p }

unfoldable pub with_queue : List ℕ → Core → Core
with_queue q c = record { slots = c.slots; queue = q; harts = c.harts }

unfoldable pub enqueue : ℕ → Core → Core
enqueue s c = with_queue (c.queue ++ (s ∷ [])) c

unfoldable pub with_init : Option Slot → Books → Books
with_init p b = record { groups = b.groups; init = p; pids = b.pids }

unfoldable pub with_pids : ℕ → Books → Books
with_pids n b = record { groups = b.groups; init = b.init; pids = n }

-- a group's count; its size is set by `resize`
unfoldable pub recount : ℕ → ℕ → Books → Books
recount g n b = set_group g (record { size = (group_at b g).size; count = n }) b

-- the head s left the queue of t, and nothing else changed
pub record Popped (t : Table) (s : ℕ) (u : Table) : Type 0 where
  pub head : t.core.queue ≡ s ∷ u.core.queue
  pub rest : u ≡ on_core (with_queue u.core.queue) t
  pub range : s < slot_count

-- ---- the words of a ring: s pushed, and its head popped
unfoldable pub pushed : RingAt → ℕ → List ℕ → List ℕ
pushed r s w = slice_set (slice_set w (column_at (column_number r.places) (count_at w r.tail % slot_count)) s) (cell_at (cell_number r.tail)) ((count_at w r.tail + 1) % turns)

unfoldable pub popped : RingAt → List ℕ → List ℕ
popped r w = slice_set w (cell_at (cell_number r.head)) ((count_at w r.head + 1) % turns)
