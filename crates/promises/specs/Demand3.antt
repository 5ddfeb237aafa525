-- Demand 3 in plain words, of every table that calls make of a fresh one. First in, first out is in FirstOut.antt.
use Rattle.std.specs.Prelude.{ℕ, ◌<◌, ◌≡◌, ◌≢◌, true, false, List, ◌∷◌, length, get_or, eqb, Some, None, Ok}
use Rattle.promises.specs.Types.{RUNNABLE, RUNNING, SLEEPING, ZOMBIE, Handed}
use Rattle.rules.specs.Sizes.{slot_count, hart_count, own_channel}
use Rattle.rules.specs.Model.{Core, Table, at, hart_at, is, is_slot, slot}
use Rattle.rules.specs.Calls.{Outcome}
use Rattle.rules.specs.Runs.{Call, dispatch}
use Rattle.promises.specs.Laws.Counts.{Stands}
use Rattle.promises.specs.Order.Sound.{Lives}
use Rattle.promises.specs.Reached.{reached}

-- a slot that sleeps in wait: on its own channel
abbrev pub sleeps_in_wait : Core → ℕ → Type 0
sleeps_in_wait c s = (is SLEEPING (at c s) ≡ true) × ((at c s).meta.channel ≡ own_channel s)

pub record Demand3 (t : Table) : Type 0 where
  -- the queue holds exactly the RUNNABLE slots ..
  pub runnable-queued : (s : ℕ) → is RUNNABLE (at t.core s) ≡ true → Stands (eqb s) t.core.queue 0
  pub queued-runnable : (i : ℕ) → i < length t.core.queue → is RUNNABLE (at t.core (get_or t.core.queue i 0)) ≡ true
  -- .. once each
  pub once-queued : (i k : ℕ) → i < k → k < length t.core.queue → get_or t.core.queue i 0 ≢ get_or t.core.queue k 0
  -- every RUNNING slot is on a hart, of which there are hart_count ..
  pub running-held : (s : ℕ) → is RUNNING (at t.core s) ≡ true → Stands (is_slot s) t.core.harts None
  pub hart-count : length t.core.harts ≡ hart_count
  -- .. on no two, and a hart holds no other kind
  pub held-once : (s i k : ℕ) → i < k → k < hart_count → hart_at t.core i ≡ Some (slot s) → hart_at t.core k ≢ Some (slot s)
  pub held-running : (h s : ℕ) → hart_at t.core h ≡ Some (slot s) → is RUNNING (at t.core s) ≡ true
  -- nobody sleeps in wait with a ZOMBIE child that is no thread
  pub no-zombie-child : (s j : ℕ) → sleeps_in_wait t.core s → is ZOMBIE (at t.core j) ≡ true → (at t.core j).kin.parent ≡ Some (slot s) → (at t.core j).kin.thread ≢ false
  -- whoever sleeps on another slot sleeps on a live thread of its own process
  pub sleeps-on-live : (s i : ℕ) → i < slot_count → s ≢ i → is SLEEPING (at t.core s) ≡ true → (at t.core s).meta.channel ≡ own_channel i → Lives (at t.core s) (at t.core i)

-- ---- dispatch on an idle hart
-- the promise, of any rule for one call: while a slot waits a dispatch is granted; the head runs on that hart, and the rest stays in its order
pub record Dispatched (o : Outcome) (h s : ℕ) (rest : List ℕ) : Type 0 where
  pub answer : o.answer ≡ Ok (Handed (slot s))
  pub hart : hart_at o.table.core h ≡ Some (slot s)
  pub queue : o.table.core.queue ≡ rest

unfoldable pub DispatchRule : (Table → Call → Outcome) → Type 0
DispatchRule f = (before : List Call) (h s : ℕ) (rest : List ℕ) → h < hart_count → hart_at (reached before).core h ≡ None → (reached before).core.queue ≡ s ∷ rest
    → Dispatched (f (reached before) (dispatch h)) h s rest

-- nothing but a dispatch hands out a slot
pub record Granted (c : Call) : Type 0 where
  pub hart : ℕ
  pub call : c ≡ dispatch hart
