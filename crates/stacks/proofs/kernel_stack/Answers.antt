use Rattle.std.proofs.Common.{arith}
use Rattle.rules.specs.Sizes.{slot_count, page_size, trampoline, kernel_stack}
use Rattle.stacks.proofs.kernel_stack.Goals as goal

pub overflow_add-result : goal.overflow_add-result
unfolding slot_count
overflow_add-result c = omega (arith, c.requires)

pub overflow_mul-result : goal.overflow_mul-result
unfolding slot_count
overflow_mul-result c = omega (arith, c.requires)

pub overflow_mul-result-2 : goal.overflow_mul-result-2
unfolding slot_count
overflow_mul-result-2 c = omega (arith, c.requires)

pub overflow_sub-result : goal.overflow_sub-result
unfolding slot_count
overflow_sub-result c = omega (arith, c.requires)

pub returns : goal.returns
unfolding kernel_stack trampoline page_size
returns c = (omega arith, omega (arith))
