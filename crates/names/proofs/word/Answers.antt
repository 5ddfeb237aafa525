use Rattle.std.proofs.Common.{ℕ, ◌+◌, get_or, rules}
use Rattle.names.proofs.PackLaws.{eight, whole, word-of}
use Rattle.names.proofs.word.Goals as goal

pub returns : goal.returns
returns c = word-of _ _ c.from_le_bytes.ensures (search rules) (whole c.args.name.now c.args.from (search rules) (search rules) c.in-Some-first_chunk.ensures.cases.same)

pub returns-2 : goal.returns-2
returns-2 c =
    let f = λ (i : ℕ). get_or c.args.name.now (c.args.from + i) 0 in
    word-of _ f c.from_le_bytes-2.ensures (search rules) (eight c.from_fn.result f (search rules) (search rules))
