use Rattle.std.proofs.Common.{rules}
use Rattle.rules.specs.Calls.{zombie_child_of}
use Rattle.scans.proofs.Scan.{least-slot}
use Rattle.scans.proofs.zombie_child_of.Goals as goal

pub returns : goal.returns
returns c = least-slot c.args.t.now (zombie_child_of c.args.s) c.lowest.ensures (λ k b h. search rules)
