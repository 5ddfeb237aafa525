-- The queue never outgrows the table, and a slot that does not wait finds room.
use Rattle.std.specs.Prelude.{ℕ, ◌≤◌, ◌<◌, ◌≡◌, refl, true, false, length, get_or, eqb}
use Rattle.std.proofs.Common.{arith, ap, ◌∙◌, eq-eqb}
use Rattle.promises.specs.Types.{UNUSED, RUNNABLE}
use Rattle.rules.specs.Sizes.{slot_count}
use Rattle.rules.specs.Model.{Core, at, is}
use Rattle.promises.specs.Laws.Counts.{ind, ind-small, ind-true, tally, tally-one}
use Rattle.promises.specs.Laws.Sums.{sum_to, sum-most, sum_below, sum-counts}
use Rattle.promises.specs.Order.Sound.{Queued}
use Rattle.promises.specs.Order.States.{other, used-range}

module _ (c : Core) (v : Queued c) where
  counts-small : (s : ℕ) → tally (eqb s) c.queue ≤ 1
  counts-small s = omega (arith, v.queue s, ind-small (is RUNNABLE (at c s)))

  -- what stands in the queue is RUNNABLE
  pub queued-runnable : (i : ℕ) → i < length c.queue → is RUNNABLE (at c (get_or c.queue i 0)) ≡ true
  queued-runnable i r = let s : ℕ = get_or c.queue i 0 in
      ind-true (is RUNNABLE (at c s)) (omega (arith, tally-one (eqb s) c.queue 0 i r (eq-eqb s s refl), v.queue s))

  queue-sum : sum_to (λ s. tally (eqb s) c.queue) slot_count ≡ length c.queue
  queue-sum = sum-counts slot_count c.queue (λ i l. let s : ℕ = get_or c.queue i 0 in
      omega (arith, v.tall, used-range c.slots s (other RUNNABLE UNUSED (at c s) (queued-runnable i l))))

  pub queue-fits : length c.queue ≤ slot_count
  queue-fits = omega (arith, queue-sum, sum-most (λ s. tally (eqb s) c.queue) counts-small slot_count)

  pub room_by : (s : ℕ) → s < slot_count → is RUNNABLE (at c s) ≡ false → length c.queue < slot_count
  room_by s l r = omega (arith, queue-sum, sum_below (λ i. tally (eqb i) c.queue) counts-small slot_count s l (v.queue s ∙ ap ind r))

  pub queue-room : (s : ℕ) → is UNUSED (at c s) ≡ false → is RUNNABLE (at c s) ≡ false → length c.queue < slot_count
  queue-room s u r = room_by s (omega (arith, v.tall, used-range c.slots s u)) r
