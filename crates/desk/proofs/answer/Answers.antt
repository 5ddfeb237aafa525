use Rattle.desk.proofs.DeskLaws.{said-is, nothing_said, call-made, list-made, show-made, fresh-made, why-said}
use Rattle.desk.proofs.answer.Goals as goal

pub returns-in-Nothing : goal.returns-in-Nothing
returns-in-Nothing c = nothing_said (said-is _ _ _ c.in-Nothing.is c.read.ensures) c.requires.0 c.requires.2

pub returns-in-Call : goal.returns-in-Call
returns-in-Call c = call-made (said-is _ _ _ c.in-Call.is c.read.ensures) c.perform.ensures

pub returns-in-Spawn : goal.returns-in-Spawn
returns-in-Spawn c = call-made (said-is _ _ _ c.in-Spawn.is c.read.ensures) c.perform-in-Spawn.ensures

pub returns-in-List : goal.returns-in-List
returns-in-List c = list-made _ (said-is _ _ _ c.in-List.is c.read.ensures) c.requires.0 c.write_list.ensures.0 c.write_list.ensures.1

pub returns-in-Show : goal.returns-in-Show
returns-in-Show c = show-made (said-is _ _ _ c.in-Show.is c.read.ensures) c.requires.0 c.write_show.ensures.0 c.write_show.ensures.1

pub returns-in-Fresh : goal.returns-in-Fresh
returns-in-Fresh c = fresh-made (said-is _ _ _ c.in-Fresh.is c.read.ensures) c.renew.ensures.0 c.renew.ensures.1 c.write_answer.ensures.0 c.write_answer.ensures.1

pub returns-in-Misread : goal.returns-in-Misread
returns-in-Misread c = why-said _ (said-is _ _ _ c.in-Misread.is c.read.ensures) c.requires.0 c.write_misread.ensures.0 c.write_misread.ensures.1
