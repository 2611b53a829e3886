use Rattle.folder_store.proofs.Files.{power_leaves}
use Rattle.folder_store.proofs.laws.power_leaves.Goals as goal

pub returns : goal.returns
returns c = power_leaves
