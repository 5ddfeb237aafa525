use Rattle.pieces.specs.Pieces.{signed_digits}
use Rattle.rules.specs.Listing.{digits}
use Rattle.std.proofs.Common.{◌≡◌, ◌++◌, ◌≤◌, length, arith, to_z-of_z}
use Rattle.pieces.proofs.PieceLaws.{below_zero, from_zero}
use Rattle.pieces.proofs.write_signed.Goals as goal
use Rattle.pieces.proofs.write_signed.Goals.{then-x-lt0, else-x-lt0}

pub returns : goal.returns
returns c =
    let e = to_z-of_z c.ranges.x in
    let n = c.from.ensures in
    let m = c.unsigned_abs.ensures.value in
    let text : c.if-x-lt0.sign.now ++ digits c.from.result ≡ signed_digits c.args.x =
    elim c.if-x-lt0.branch [
      | then-x-lt0 w ↦ rw (w.sign-is, n, m, e) (below_zero c.args.x (rw e at w.if-x-lt0.true))
      | else-x-lt0 w ↦ rw (w.sign-is, n, m, e) (from_zero c.args.x (rw e at w.if-x-lt0.false))
    ] in
    let short : length c.if-x-lt0.sign.now ≤ 1 = elim c.if-x-lt0.branch [ then-x-lt0 w ↦ rw w.sign-is (omega arith) | else-x-lt0 w ↦ rw w.sign-is (omega arith) ] in
    (rw (← text) c.write_field.ensures.0, omega (arith, c.write_field.ensures.1))
