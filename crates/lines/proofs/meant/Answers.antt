use Rattle.lines.specs.Grammar.{number_of}
use Rattle.lines.specs.declared.grammar.Command.TheVariants as named
use Rattle.lines.proofs.GrammarLaws.{is-spawn, same-number}
use Rattle.lines.proofs.MeaningLaws.{by-spawn, by-list, by-show, by-fresh, by_call}
use Rattle.lines.proofs.WordLaws.{word-short}
use Rattle.std.proofs.Common.{◌≡◌, ap, arith}
use Rattle.lines.proofs.meant.Goals as goal

pub write_name-requires : goal.write_name-requires
write_name-requires c =
    (rw c.next.ensures.word (c.requires.named (is-spawn _ (ap number_of c.in-Spawn.is))), rw c.next.ensures.word (omega (arith, word-short c.args.rest.now, c.requires.fits)))

pub call-requires : goal.call-requires
call-requires c =
    let list : number_of c.args.command ≡ 0 → ⊥ = λ e. c.in_default.not-List (same-number _ named.List e) in
    let show : number_of c.args.command ≡ 1 → ⊥ = λ e. c.in_default.not-Show (same-number _ named.Show e) in
    let fresh : number_of c.args.command ≡ 2 → ⊥ = λ e. c.in_default.not-Fresh (same-number _ named.Fresh e) in
    record { call = omega arith; long = c.requires.long }

pub returns-in-Spawn : goal.returns-in-Spawn
returns-in-Spawn c = by-spawn _ _ _ _ (ap number_of c.in-Spawn.is) c.next.ensures.word c.write_name.ensures

pub returns-in-List : goal.returns-in-List
returns-in-List c = by-list _ _ _ (ap number_of c.in-List.is)

pub returns-in-Show : goal.returns-in-Show
returns-in-Show c = by-show _ _ _ (ap number_of c.in-Show.is)

pub returns-in-Fresh : goal.returns-in-Fresh
returns-in-Fresh c = by-fresh _ _ _ (ap number_of c.in-Fresh.is)

pub returns-in_default : goal.returns-in_default
returns-in_default c =
    by_call _ _ _ _ (λ e. c.in_default.not-Spawn (same-number _ named.Spawn e)) (λ e. c.in_default.not-List (same-number _ named.List e))
    (λ e. c.in_default.not-Show (same-number _ named.Show e)) (λ e. c.in_default.not-Fresh (same-number _ named.Fresh e)) c.call.ensures
