-- A call by name, one step, and a run. The listing changes nothing and is no step.
use Rattle.std.specs.Prelude.{ℕ, Bool, List, [], ◌∷◌, ℤ}
use Rattle.rules.specs.Types.{Pid, Wish, ThreadAsk, Mapped, Answer}
use Rattle.rules.specs.Model.{Table}
use Rattle.rules.specs.Calls.{Outcome, booted, started, spawned, system_returned, forked, threaded, dispatched, yielded, slept, woken, killed, waited, joined, thread_exited, exited, grown}

pub data Call : Type 0 where
  boot : Call
  start : Call
  spawn : (name : List ℕ) (entry : ℕ) → Call
  system_return : (hart : ℕ) → Call
  fork : (hart : ℕ) (memory : Bool) → Call
  thread : (hart : ℕ) → ThreadAsk → Mapped → Call
  dispatch : (hart : ℕ) → Call
  yield : (hart : ℕ) → Call
  sleep : (hart channel : ℕ) → Call
  wakeup : (channel : ℕ) → Call
  kill : Pid → Call
  wait : (hart : ℕ) → Wish → Call
  join : (hart : ℕ) → Pid → Wish → Call
  thread_exit : (hart status : ℕ) → Call
  exit : (hart status : ℕ) → Call
  grow : (hart : ℕ) → ℤ → (memory : Bool) → Call

unfoldable pub step : Table → Call → Outcome
step t boot = booted t
step t start = started t
step t (spawn name entry) = spawned t name entry
step t (system_return h) = system_returned t h
step t (fork h memory) = forked t h memory
step t (thread h a m) = threaded t h a m
step t (dispatch h) = dispatched t h
step t (yield h) = yielded t h
step t (sleep h ch) = slept t h ch
step t (wakeup ch) = woken t ch
step t (kill p) = killed t p
step t (wait h w) = waited t h w
step t (join h p w) = joined t h p w
step t (thread_exit h x) = thread_exited t h x
step t (exit h x) = exited t h x
step t (grow h d memory) = grown t h d memory

pub record Run : Type 0 where
  pub answers : List Answer
  pub table : Table

-- the calls one after the other, by any rule for one of them
unfoldable pub run_by : (Table → Call → Outcome) → Table → List Call → Run
run_by f t [] = record { answers = []; table = t }
run_by f t (c ∷ cs) = let o = f t c in let r = run_by f o.table cs in record { answers = o.answer ∷ r.answers; table = r.table }

unfoldable pub run : Table → List Call → Run
run t cs = run_by step t cs
