use Rattle.names.proofs.PackLaws.{two-words}
use Rattle.names.proofs.pack.Goals as goal

pub returns : goal.returns
returns c =
    two-words c.args.name.now c.word.ensures c.word-2.ensures
