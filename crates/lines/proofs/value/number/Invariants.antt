use Rattle.promises.specs.Laws.Digits.{read_on}
use Rattle.std.proofs.Common.{drop, ◌≡◌, ◌<◌, ◌^◌}
use Rattle.lines.proofs.value.number.Given as goal

abbrev pub invariant-loop-b : goal.invariant-loop-b
invariant-loop-b l = (read_on 0 l.w ≡ read_on l.n (drop l.b-index l.w)) × (l.n < 2 ^ 64)
