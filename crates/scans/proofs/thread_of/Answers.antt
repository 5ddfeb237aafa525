use Rattle.std.proofs.Common.{rules}
use Rattle.rules.specs.Calls.{thread_of}
use Rattle.scans.proofs.Scan.{least-slot}
use Rattle.scans.proofs.thread_of.Goals as goal

pub returns : goal.returns
returns c = least-slot c.args.t.now (thread_of c.args.m) c.lowest.ensures (λ k b h. search rules)
