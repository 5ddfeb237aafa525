use Rattle.words.specs.Reading.{table_of}
use Rattle.runs.proofs.RunLaws.{Midway}
use Rattle.runs.proofs.run.Given as goal

abbrev pub invariant-loop-n : goal.invariant-loop-n
invariant-loop-n l = Midway l.text l.calls l.initial.out (table_of l.initial.t) l.most (table_of l.t) l.out l.n
