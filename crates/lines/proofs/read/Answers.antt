use Rattle.lines.proofs.GrammarLaws.{numbered}
use Rattle.lines.proofs.MeaningLaws.{name-there, told-all, told-not, nothing-there, hash-there, no-command, a-command}
use Rattle.lines.proofs.WordLaws.{rest-short}
use Rattle.std.proofs.Common.{◌∙◌, arith}
use Rattle.lines.proofs.read.Goals as goal
use Rattle.lines.proofs.read.Goals.{then-is_empty-via-then-is_empty, then-is_empty-via-else-is_empty+then-word-eq35}

pub returns-then-is_empty : goal.returns-then-is_empty
returns-then-is_empty c =
    elim c.then-is_empty.branch [
      | then-is_empty-via-then-is_empty w ↦ nothing-there c.args.line.now c.next.ensures.word w.if-is_empty.ensures
      | then-is_empty-via-else-is_empty+then-word-eq35 w ↦ hash-there c.args.line.now c.next.ensures.word w.if-word-eq35.true
    ]

pub returns-in_default : goal.returns-in_default
returns-in_default c = no-command c.args.line.now c.next.ensures.word c.if-is_empty.ensures c.if-word-eq35.false c.in_default.ensures

pub read-requires : goal.read-requires
read-requires c = c.kinds.ensures.few

pub meant-requires : goal.meant-requires
meant-requires c = record {
  long = omega (arith, c.read.auto.w);
  fits = rw c.next.ensures.rest (omega (arith, rest-short c.args.line.now, c.requires));
  named = name-there _ _ _ _ (rw c.kinds.ensures.are at c.in-Ok.ensures);
}

pub returns-in-Ok : goal.returns-in-Ok
returns-in-Ok c =
    c.meant.ensures ∙ told-all _ _ _ _ (rw c.kinds.ensures.are at c.in-Ok.ensures)
    ∙ a-command c.args.line.now c.next.ensures.word c.if-is_empty.ensures c.if-word-eq35.false c.in-Some.ensures (numbered c.in-Some.command).small c.next.ensures.rest

pub returns-in-Err : goal.returns-in-Err
returns-in-Err c =
    told-not _ _ _ _ _ (rw c.kinds.ensures.are at c.in-Err.ensures)
    ∙ a-command c.args.line.now c.next.ensures.word c.if-is_empty.ensures c.if-word-eq35.false c.in-Some.ensures (numbered c.in-Some.command).small c.next.ensures.rest
