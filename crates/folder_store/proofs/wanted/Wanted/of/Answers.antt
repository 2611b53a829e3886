use Rattle.folder_store.proofs.Searching.{filter_each}
use Rattle.folder_store.proofs.wanted.Wanted.of.Goals as goal

pub returns-in-All : goal.returns-in-All
returns-in-All c = λ names. rw c.in-All.is (filter_each names)
