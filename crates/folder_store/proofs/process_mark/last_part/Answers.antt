use Rattle.folder_store.proofs.Marking.{none_last, some_last}
use Rattle.folder_store.proofs.process_mark.last_part.Goals as goal

pub returns-in-Some : goal.returns-in-Some
returns-in-Some c = some_last c.args.name.now _ c.in-Some.part.now c.in-Some.ensures.cases

pub returns-in-None : goal.returns-in-None
returns-in-None c = none_last c.args.name.now c.in-None.ensures.cases
