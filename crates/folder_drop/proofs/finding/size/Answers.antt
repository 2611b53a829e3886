use Rattle.folder_drop.proofs.finding.size.Goals as goal

pub returns-in_ok-count_size-in-Some-clause-there : goal.returns-in_ok-count_size-in-Some-clause-there
returns-in_ok-count_size-in-Some-clause-there g c = (
  c.in-Some.file,
  (rw c.as_str.ensures.value at (rw c.in-Some.is at c.in_ok-file.ensures.there)),
  c.in_ok-count_size-in-Some.ensures,
)
