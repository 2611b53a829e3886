use Rattle.std.proofs.Common.{rules}
use Rattle.mail_store.proofs.MaildirLemmas.{named_same}
use Rattle.mail_store.proofs.maildir.memory.MemoryMaildirMaildirDisk.settle.Goals as goal

pub returns-in-Ok-clause-settles : goal.returns-in-Ok-clause-settles
returns-in-Ok-clause-settles c =
    λ k. (
      search rules,
      λ d begun. (c.args.self.now.maildir.files, named_same c.args.self.now.maildir.files, search rules),
    )
