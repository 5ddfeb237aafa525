-- What calls are made of: the scheduler's moves, the scans, the books.
use Rattle.std.specs.Prelude.{ℕ, zero, suc, ◌+◌, ◌-◌, Bool, true, false, cond, ◌&&◌, List, [], ◌∷◌, ◌++◌, set, eqb, leb, Option, Some, None}
use Rattle.rules.specs.Types.{SLEEPING, Process, Group, Slot}
use Rattle.rules.specs.Sizes.{slot_count, own_channel}
use Rattle.rules.specs.Model.{Core, Books, Table, at, group_at, no_group, free, is, is_slot, slot, to_runnable, to_running, to_sleeping, to_zombie, to_killed, with_parent}

-- ---- one slot, one hart
unfoldable pub change : (Process → Process) → ℕ → Core → Core
change f s c = record { slots = set c.slots s (f (at c s)); queue = c.queue; harts = c.harts }

-- RUNNABLE, queued, appended to the tail
unfoldable pub publish : ℕ → Core → Core
publish s c = let d = change to_runnable s c in record { slots = d.slots; queue = d.queue ++ (s ∷ []); harts = d.harts }

-- the head s, before rest, leaves the queue and runs on hart h
unfoldable pub hand : ℕ → ℕ → List ℕ → Core → Core
hand h s rest c =
    let d = change to_running s c in record { slots = d.slots; queue = rest; harts = set d.harts h (Some (slot s)) }

-- hart h runs nothing
unfoldable pub idle : ℕ → Core → Core
idle h c = record { slots = c.slots; queue = c.queue; harts = set c.harts h None }

-- the caller s on hart h stops RUNNING, in one of three ways
unfoldable pub yield_on : ℕ → ℕ → Core → Core
yield_on h s c = publish s (idle h c)

unfoldable pub sleep_on : ℕ → ℕ → ℕ → Core → Core
sleep_on h s ch c = change (to_sleeping ch) s (idle h c)

unfoldable pub zombie_on : ℕ → ℕ → ℕ → Core → Core
zombie_on h s x c = change (to_zombie x) s (idle h c)

-- ---- scans
-- f at 0, 1, .. below n, in that order
unfoldable pub sweep : {A : Type 0} → (ℕ → A → A) → ℕ → A → A
sweep f zero c = c
sweep f (suc n) c = f n (sweep f n c)

unfoldable pub first_from : {A : Type 0} → (A → Bool) → List A → ℕ → Option ℕ
first_from test [] i = None
first_from test (x ∷ xs) i = elim (test x) [ true ↦ Some i | false ↦ first_from test xs (suc i) ]

-- the lowest index whose element passes
unfoldable pub lowest : {A : Type 0} → (A → Bool) → List A → Option ℕ
lowest test l = first_from test l 0

-- ---- wake, kill, reparent
unfoldable pub publish_if : Bool → ℕ → Core → Core
publish_if b s c = cond b (publish s c) c

abbrev pub sleeps_on : ℕ → Process → Bool
sleeps_on ch p = is SLEEPING p && eqb p.meta.channel ch

unfoldable pub wake_one : ℕ → ℕ → Core → Core
wake_one ch s c = publish_if (sleeps_on ch (at c s)) s c

-- every SLEEPING slot on that channel is published, by rising slot
unfoldable pub wake : ℕ → Core → Core
wake ch c = sweep (wake_one ch) slot_count c

-- the slot's own channel is woken, where there is a slot
unfoldable pub wake_of : Option Slot → Core → Core
wake_of None c = c
wake_of (Some s) c = wake (own_channel s.0) c

-- killed, and published if SLEEPING
unfoldable pub slay : ℕ → Core → Core
slay s c = publish_if (is SLEEPING (at c s)) s (change to_killed s c)

-- a slot whose parent is s gets init, and init's channel is woken
unfoldable pub hand_over : Option Slot → ℕ → ℕ → Core → Core
hand_over init s i c = cond (is_slot s (at c i).kin.parent) (wake_of init (change (with_parent init) i c)) c

unfoldable pub reparent : Option Slot → ℕ → Core → Core
reparent init s c = sweep (hand_over init s) slot_count c

-- ---- the books
abbrev pub set_group : ℕ → Group → Books → Books
set_group g x b = record { groups = set b.groups g x; init = b.init; pids = b.pids }

abbrev pub empty_group : Group → Bool
empty_group x = eqb x.count 0

abbrev pub or_zero : Option ℕ → ℕ
or_zero None = 0
or_zero (Some n) = n

-- the lowest index with count 0; there is one whenever a slot is UNUSED
unfoldable pub new_group : Books → ℕ
new_group b = or_zero (lowest empty_group b.groups)

unfoldable pub open_group : ℕ → Books → Books
open_group size b = set_group (new_group b) (record { size = size; count = 1 }) b

unfoldable pub join_group : ℕ → Books → Books
join_group g b = set_group g (record { size = (group_at b g).size; count = (group_at b g).count + 1 }) b

-- one slot fewer; at count 0 the size is 0
abbrev pub less : Group → Group
less x = cond (leb x.count 1) no_group (record { size = x.size; count = x.count - 1 })

unfoldable pub leave_group : Option ℕ → Books → Books
leave_group None b = b
leave_group (Some g) b = set_group g (less (group_at b g)) b

unfoldable pub resize : ℕ → ℕ → Books → Books
resize g n b = set_group g (record { size = n; count = (group_at b g).count }) b

unfoldable pub set_init : ℕ → Books → Books
set_init s b = record { groups = b.groups; init = Some (slot s); pids = b.pids }

unfoldable pub spend : Books → Books
spend b = record { groups = b.groups; init = b.init; pids = b.pids + 1 }

-- ---- freeing a slot: the slot, and its place in its group
abbrev pub to_free : Process → Process
to_free p = free

unfoldable pub reap : ℕ → Table → Table
reap s t = record { core = change to_free s t.core; books = leave_group (at t.core s).kin.group t.books }
