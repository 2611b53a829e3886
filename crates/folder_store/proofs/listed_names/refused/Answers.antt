use Rattle.folder_store.proofs.Sharing.{did_none}
use Rattle.folder_store.proofs.listed_names.refused.Goals as goal

pub returns : goal.returns
returns g c = λ s. (s, did_none (g.S.SharedCalls.shared c.args.calls.now), tt)
