use Rattle.folder_drop.proofs.maildir_drop.FilesDrop.renewed.Goals as goal

pub invariant_of-result : goal.invariant_of-result
invariant_of-result g c = λ s. let before = c.renewed-known.ensures.knows s in before.1 (c.self.invariant before.0)
