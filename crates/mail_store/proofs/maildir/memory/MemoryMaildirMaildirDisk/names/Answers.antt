use Rattle.std.proofs.Common.{rules, arith, ◌∙◌, refl, ap}
use Rattle.mail_store.{specs.Maildir.names_of, proofs.MaildirLemmas.{none_taken, theirs_of}}
use Rattle.mail_store.proofs.maildir.memory.MemoryMaildirMaildirDisk.names.Goals as goal

pub returns-in-Ok-clause-lists : goal.returns-in-Ok-clause-lists
returns-in-Ok-clause-lists c = λ k.
    let theirs = theirs_of c.args.self.now c.args.folder c.in-Ok.names.items (rw (← c.self.view_is) refl)
    (c.in-Ok.ensures ∙ ap names_of c.files.ensures) in
    (k, (c.args.self.now.maildir, none_taken c.args.self.now.maildir, (rw (← c.self.view_is) (grind arith), theirs, refl)))

pub returns-in-Err-clause-lists : goal.returns-in-Err-clause-lists
returns-in-Err-clause-lists c = λ k. (search rules, (c.args.self.now.maildir, none_taken c.args.self.now.maildir, search rules))
