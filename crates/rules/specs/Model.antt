-- One slot, one group, the table; and the one-slot changes that calls make.
use Rattle.std.specs.Prelude.{ℕ, Bool, true, false, List, [], get_or, replicate, eqb, Option, Some, None}
use Rattle.rules.specs.Types.{Pid, Slot, ProcState, UNUSED, ALLOCATED, RUNNABLE, RUNNING, SLEEPING, ZOMBIE, ProcMeta, Kin, Start, Process, Group}
use Rattle.rules.specs.Sizes.{slot_count, group_count, hart_count, trapframe, name_size}

-- ---- short names
abbrev pub pid : ℕ → Pid
pid n = record { 0 = n }

abbrev pub slot : ℕ → Slot
slot n = record { 0 = n }

abbrev pub state_code : ProcState → ℕ
state_code UNUSED = 0
state_code ALLOCATED = 1
state_code RUNNABLE = 2
state_code RUNNING = 3
state_code SLEEPING = 4
state_code ZOMBIE = 5

-- the slot is in that state
abbrev pub is : ProcState → Process → Bool
is a p = eqb (state_code a) (state_code p.meta.state)

abbrev pub is_slot : ℕ → Option Slot → Bool
is_slot s None = false
is_slot s (Some x) = eqb s x.0

abbrev pub known : Option Slot → Bool
known None = false
known (Some x) = true

-- two slots of one group; a slot without group shares it with nobody
abbrev pub same_group : Option ℕ → Option ℕ → Bool
same_group None m = false
same_group (Some g) None = false
same_group (Some g) (Some x) = eqb g x

-- ---- one slot
-- fresh or freed: UNUSED, all else zero or none, trapframe address TRAPFRAME
unfoldable pub free : Process
free = record {
  meta = record { state = UNUSED; channel = 0; killed = false; xstate = 0; pid = pid 0; queued = false };
  kin = record { group = None; parent = None; thread = false; system = false };
  start = record { trapframe = trapframe; sp = 0; entry = 0; top = 0; arg = 0; ret = 0; name = replicate name_size 0 };
}

-- just taken: ALLOCATED under its pid, nothing pending
unfoldable pub taken : ℕ → Kin → Start → Process
taken n k b = record {
  meta = record { state = ALLOCATED; channel = 0; killed = false; xstate = 0; pid = pid n; queued = false };
  kin = k;
  start = b;
}

-- the changes of one slot
abbrev pub on_meta : (ProcMeta → ProcMeta) → Process → Process
on_meta f p = record { meta = f p.meta; kin = p.kin; start = p.start }

abbrev pub as_runnable : ProcMeta → ProcMeta
as_runnable m = record { state = RUNNABLE; channel = m.channel; killed = m.killed; xstate = m.xstate; pid = m.pid; queued = true }

abbrev pub as_running : ProcMeta → ProcMeta
as_running m = record { state = RUNNING; channel = 0; killed = m.killed; xstate = m.xstate; pid = m.pid; queued = false }

abbrev pub as_sleeping : ℕ → ProcMeta → ProcMeta
as_sleeping ch m = record { state = SLEEPING; channel = ch; killed = m.killed; xstate = m.xstate; pid = m.pid; queued = m.queued }

abbrev pub as_zombie : ℕ → ProcMeta → ProcMeta
as_zombie x m = record { state = ZOMBIE; channel = m.channel; killed = m.killed; xstate = x; pid = m.pid; queued = m.queued }

abbrev pub as_killed : ProcMeta → ProcMeta
as_killed m = record { state = m.state; channel = m.channel; killed = true; xstate = m.xstate; pid = m.pid; queued = m.queued }

-- .. as changes of the whole slot: the moves and what is proved of them speak of these alone
abbrev pub to_runnable : Process → Process
to_runnable p = on_meta as_runnable p

abbrev pub to_running : Process → Process
to_running p = on_meta as_running p

abbrev pub to_sleeping : ℕ → Process → Process
to_sleeping ch p = on_meta (as_sleeping ch) p

abbrev pub to_zombie : ℕ → Process → Process
to_zombie x p = on_meta (as_zombie x) p

abbrev pub to_killed : Process → Process
to_killed p = on_meta as_killed p

abbrev pub with_parent : Option Slot → Process → Process
with_parent q p = record {
  meta = p.meta;
  kin = record { group = p.kin.group; parent = q; thread = p.kin.thread; system = p.kin.system };
  start = p.start;
}

-- ---- the table: what the scheduler moves, and the books
pub record Core : Type 0 where
  pub slots : List Process
  -- the run queue: slot numbers, first in, first out
  pub queue : List ℕ
  -- what each hart runs
  pub harts : List (Option Slot)

pub record Books : Type 0 where
  pub groups : List Group
  pub init : Option Slot
  -- the pid counter
  pub pids : ℕ

pub record Table : Type 0 where
  pub core : Core
  pub books : Books

abbrev pub no_group : Group
no_group = record { size = 0; count = 0 }

unfoldable pub fresh : Table
fresh = record {
  core = record { slots = replicate slot_count free; queue = []; harts = replicate hart_count None };
  books = record { groups = replicate group_count no_group; init = None; pids = 0 };
}

-- ---- reading
abbrev pub at : Core → ℕ → Process
at c s = get_or c.slots s free

abbrev pub hart_at : Core → ℕ → Option Slot
hart_at c h = get_or c.harts h None

abbrev pub group_at : Books → ℕ → Group
group_at b g = get_or b.groups g no_group
