use Rattle.folder_drop.proofs.SeenLemmas.{first_found, first_none}
use Rattle.folder_drop.proofs.seen_files.SeenFiles.first_with.Goals as goal

pub returns-clause-found : goal.returns-clause-found
returns-clause-found c = first_found _ _ _ _ c.with_base.ensures c.first.ensures.value

pub returns-clause-none : goal.returns-clause-none
returns-clause-none c = first_none _ _ _ _ c.with_base.ensures c.first.ensures.value
