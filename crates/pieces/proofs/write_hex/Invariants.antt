use Rattle.pieces.specs.Pieces.{hex_text}
use Rattle.buffers.specs.Text.{Wrote}
use Rattle.std.proofs.Common.{take, ◌+◌, ◌*◌, ◌≤◌}
use Rattle.pieces.proofs.write_hex.Given as goal

abbrev pub invariant-loop-b : goal.invariant-loop-b
invariant-loop-b l = record {
  text : Wrote l.initial.out l.at (hex_text (take l.b-index l.name)) l.out l.on;
  bound : l.on ≤ l.at + 2 * l.b-index;
}
