use Rattle.std.proofs.Common.{rules}
use Rattle.rules.specs.declared.ProcState.TheVariants.{UNUSED}
use Rattle.rules.specs.Model.{is}
use Rattle.scans.proofs.Scan.{least-slot}
use Rattle.scans.proofs.unused.Goals as goal

pub returns : goal.returns
returns c = least-slot c.args.t.now (is UNUSED) c.lowest.ensures (λ k b h. search rules)
