use Rattle.std.proofs.Common.{rules}
use Rattle.std.specs.Prelude.{◌≢◌}
use Rattle.rules.specs.declared.ProcState.TheVariants.{UNUSED}
use Rattle.words.specs.Reading.{table_of}
use Rattle.buffers.proofs.TextLaws.{wrote-more}
use Rattle.listing.proofs.LineLaws.{line_used}
use Rattle.listing.proofs.line.write_line.Goals as goal

pub returns : goal.returns
returns c =
    let u : c.meta_at-m.result.state ≢ UNUSED = search rules in
    rw (line_used (table_of c.args.t.now) c.args.s (rw c.meta_at-m.ensures at u), ← c.meta_at-m.ensures, ← c.start_at-w.ensures) (wrote-more (wrote-more c.write_pid-a.ensures c.write_state-b.ensures) c.write_name.ensures)
