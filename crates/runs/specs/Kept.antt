-- The promises over every list of calls, as promises about `run`: its table is the one that the calls make.
use Rattle.std.specs.Prelude.{ℕ, ◌<◌, ◌≡◌, List}
use Rattle.std.proofs.Common.{sym, ◌∙◌, subst}
use Rattle.std.proofs.Math.ListN.{length}
use Rattle.rules.specs.Model.{Table, fresh}
use Rattle.rules.specs.Runs.{Call, run}
use Rattle.promises.specs.Demand3.{Demand3}
use Rattle.promises.proofs.Demand3.{sound-demand}
use Rattle.promises.specs.FirstOut.{Turn, FirstInFirstOut, handed_out}
use Rattle.promises.proofs.FirstOut.{first-in-first-out}
use Rattle.promises.specs.Reached.{reached}
use Rattle.runs.specs.Ran.{Ran}

-- no second outcome
pub ran-once : {cs : List Call} {t : Table} {b : List ℕ} {n m : ℕ} {u v : Table} {d e : List ℕ} → Ran cs t b n u d → Ran cs t b m v e → (n ≡ m) × (u ≡ v) × (d ≡ e)
ran-once p q = (p.count ∙ sym q.count, p.table ∙ sym q.table, p.answers ∙ sym q.answers)

module _ {before : List Call} {b : List ℕ} {n : ℕ} {t : Table} {d : List ℕ} (p : Ran before fresh b n t d) where
  pub ran-reached : t ≡ reached before
  ran-reached = p.table

  pub ran-demand : Demand3 t
  ran-demand = sound-demand t p.sound

  -- a slot with k ahead, over another run
  pub ran-turn : {after : List Call} {c : List ℕ} {m : ℕ} {u : Table} {e : List ℕ} → Ran after t c m u e → (k : ℕ) → k < length t.core.queue
      → Turn t.core.queue (handed_out (run t after).answers) u.core.queue k
  unfolding FirstInFirstOut run
  ran-turn {after} q k l = rw q.table (subst (λ (x : Table). k < length x.core.queue → Turn x.core.queue (handed_out (run x after).answers) (run x after).table.core.queue k)
      (sym p.table) (first-in-first-out before after k) l)
