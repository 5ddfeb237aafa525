use Rattle.std.proofs.Common.{rules}
use Rattle.rules.specs.Calls.{has_pid}
use Rattle.scans.proofs.Scan.{least-slot}
use Rattle.scans.proofs.with_pid.Goals as goal

pub returns : goal.returns
returns c = least-slot c.args.t.now (has_pid c.args.p) c.lowest.ensures (λ k b h. search rules)
