use Rattle.rules.specs.Sizes.{slot_count, hart_count, name_size}
use Rattle.std.proofs.Common.{refl, arith}
use Rattle.session.proofs.run.Goals as goal

pub hear-p-requires : goal.hear-p-requires
unfolding slot_count hart_count name_size
hear-p-requires g c =
    rw c.start.ensures record { sound = c.new.ensures.1; for_line = refl; for_name = omega arith; len = omega arith; for_answer = omega arith }
