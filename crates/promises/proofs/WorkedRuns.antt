-- Document 01's starred worked runs, A to H: one list, one claim.
use Rattle.std.specs.Prelude.{◌≡◌, refl, []}
use Rattle.rules.specs.Open.{everything}
use Rattle.rules.specs.Worked.{count_from, same_int, same_by, same_answer, right_looks, right, wrong}
use Rattle.promises.specs.WorkedRuns.{worked_runs}

pub worked-runs-right : wrong 0 worked_runs ≡ []
unfolding everything worked_runs count_from wrong right right_looks same_by same_answer same_int
worked-runs-right = refl
