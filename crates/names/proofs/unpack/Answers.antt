use Rattle.names.proofs.PackLaws.{le-bytes}
use Rattle.names.proofs.unpack.Goals as goal

pub returns : goal.returns
returns c = rw (← le-bytes c.args.a, ← le-bytes c.args.b, c.copy_from_slice.ensures.after, c.copy_from_slice-2.ensures.after, c.to_le_bytes.ensures, c.to_le_bytes-2.ensures)
