use Rattle.std.proofs.Common.{refl, arith}
use Rattle.rules.specs.Sizes.{slot_count, page_size, thread_trapframe}
use Rattle.stacks.proofs.below.Goals as goal

pub overflow_add-result : goal.overflow_add-result
unfolding slot_count
overflow_add-result c = omega (arith, c.requires)

pub overflow_mul-result : goal.overflow_mul-result
unfolding slot_count
overflow_mul-result c = omega (arith, c.requires)

pub returns : goal.returns
unfolding thread_trapframe page_size
returns c = refl
