use Rattle.anwalghid.proofs.ExportLaws.{renewed_one}
use Rattle.anwalghid.proofs.tables.anwalghid_new.Goals as goal

pub returns : goal.returns
returns c = renewed_one _ c.if-tables-ne1.false _ c.renew.ensures
