use Rattle.std.proofs.Common.{arith}
use Rattle.rules.specs.Sizes.{page_size, trampoline, system_sp}
use Rattle.stacks.proofs.system_sp.Goals as goal

pub overflow_add-result : goal.overflow_add-result
unfolding trampoline page_size
overflow_add-result c = omega (arith, c.kernel_stack.ensures.1)

pub returns : goal.returns
unfolding system_sp page_size
returns c = omega (arith, c.kernel_stack.ensures.0)
