use Rattle.std.{
  proofs.{Common.{[], ◌∙◌, ap, sym, rules, refl}, lemmas.List.{map-append, Sorted.IsPermutation-refl}},
  specs.List.filter,
}
use Rattle.mail_store.specs.{Held.{asks, is_sought}, Maildir.name_in}
use Rattle.mail_store.proofs.MaildirLemmas.{all_shown, none_taken, told_sought}
use Rattle.mail_store.proofs.maildir.memory.MemoryMaildirMaildirDisk.names_among.Goals as goal

pub returns-in-Ok-clause-lists : goal.returns-in-Ok-clause-lists
returns-in-Ok-clause-lists c = λ k.
    let sought = rw (c.deref.ensures.value, c.deref-2.ensures.value) at c.in-Ok.ensures in
    let told = told_sought (asks c.args.asked) _ c.in-Ok.names.items
    (sought ∙ ap (filter (is_sought (asks c.args.asked))) (sym (map-append name_in _ _))) in (
      k,
      (
        c.args.self.now.maildir,
        none_taken c.args.self.now.maildir,
        rw (← c.self.view_is) (refl, refl, told, all_shown _, refl, IsPermutation-refl [], tt),
      ),
    )

pub returns-in-Err-clause-lists : goal.returns-in-Err-clause-lists
returns-in-Err-clause-lists c = λ k. (search rules, (c.args.self.now.maildir, none_taken c.args.self.now.maildir, search rules))
