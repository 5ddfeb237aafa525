use Rattle.std.proofs.Common.{rules}
use Rattle.anwalghid.specs.Exports.{allowed}
use Rattle.anwalghid.proofs.ExportLaws.{in-range, out_of_range}
use Rattle.anwalghid.proofs.calls.anwalghid_create_user_thread.Goals as goal

pub returns-in_default : goal.returns-in_default
unfolding allowed
returns-in_default c = rw (out_of_range _ c.mapped.ensures c.in_default.is) (c.out_of_range.ensures _ c.requires)

pub returns : goal.returns
unfolding allowed
returns c = let e = in-range _ c.mapped.ensures c.in-Some.is in rw (e.0, e.1) (c.on_one.ensures _ (search rules))
