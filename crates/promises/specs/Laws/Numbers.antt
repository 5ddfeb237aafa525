-- What the port's own numbers satisfy: beside worked runs and the ring's instance, the only laws that open them.
use Rattle.std.specs.Prelude.{ℕ, ◌+◌, ◌*◌, ◌^◌, ◌≤◌, ◌<◌}
use Rattle.std.proofs.Common.{arith}
use Rattle.rules.specs.Sizes.{slot_count, hart_count, pid_top, page_size, trampoline, trapframe, init_size, size_top}

pub some-hart : 0 < hart_count
unfolding hart_count
some-hart = omega arith

-- 20 digits hold any pid
pub pids-short : (n : ℕ) → n ≤ pid_top → n < 10 ^ 20
unfolding pid_top
pids-short n l = omega arith

pub init-size : init_size ≤ size_top
unfolding init_size size_top trapframe trampoline page_size slot_count
init-size = omega arith

-- every slot's kernel stack and trapframe lie above 0: the differences are not cut off
pub addresses-fit : (s : ℕ) → s < slot_count → ((s + 1) * 5 * page_size < trampoline) × ((s + 1) * page_size < trapframe)
unfolding slot_count page_size trampoline trapframe
addresses-fit s r = (omega (arith, r), omega (arith, r))
