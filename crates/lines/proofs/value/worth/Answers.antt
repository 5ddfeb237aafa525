use Rattle.lines.specs.Values.{value_in}
use Rattle.lines.proofs.ValueLaws.{flag-worded, wish-tag, number-worth}
use Rattle.std.proofs.Common.{◌∙◌, ap, Ok}
use Rattle.lines.proofs.value.worth.Goals as goal

pub returns-in-Number : goal.returns-in-Number
returns-in-Number c = c.number.ensures ∙ number-worth c.args.kind c.args.w.now c.in-Number.is

pub returns-in-Count : goal.returns-in-Count
unfolding value_in
returns-in-Count c = rw c.in-Count.is c.count.ensures

pub returns-in-Flag : goal.returns-in-Flag
unfolding value_in
returns-in-Flag c = rw c.in-Flag.is (ap Ok (flag-worded c.flag.result c.map_or.ensures) ∙ c.flag.ensures)

pub returns-in-Some : goal.returns-in-Some
unfolding value_in
returns-in-Some c = rw c.in-Wish.is (ap Ok (wish-tag c.in-Some.wish) ∙ c.in-Some.ensures)

pub returns-in-None : goal.returns-in-None
unfolding value_in
returns-in-None c = rw c.in-Wish.is c.in-None.ensures

pub returns-in-Name : goal.returns-in-Name
unfolding value_in
returns-in-Name c = rw c.in-Name.is c.name_worth.ensures
