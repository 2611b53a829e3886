use Rattle.std.proofs.{Common.{◌∙◌, ◌++◌, List, ap, map, refl, rules}, lemmas.List.{map-append, Elements.filter_from_retain}}
use Rattle.folder_store.specs.MailFolders.{MailFile, files_at, mail_at}
use Rattle.test_devices.{
  specs.{declared.stored_mail.StoredMail.StoredMail, MemoryFolders.stored_file},
  proofs.MemoryMail.{not_gone, left_files},
}
use Rattle.test_devices.proofs.memory_folders.MemoryFolders.forget_taken.Goals as goal

pub returns-clause-ok : goal.returns-clause-ok
returns-clause-ok c =
    let was = c.self.inside in
    let left = filter_from_retain _ not_gone (λ p x b q h. search rules) _ _ _ c.retain.ensures.filtered in
    let stay = ap (λ (files : List StoredMail). map stored_file files) left ∙ left_files was.files.items in
    let taken = ap (λ (files : List StoredMail). files_at (map stored_file files)) c.in_ok-append.ensures.items
    ∙ ap files_at (map-append stored_file was.taken.items c.in_ok-taken.taken.items) ∙ map-append mail_at _ _
    ∙ ap (λ (ss : List MailFile). files_at (map stored_file was.taken.items) ++ files_at ss)
    (rw c.deref.ensures.value at c.in_ok-taken.ensures) in
    rw (← c.self.view_is) (rw (stay, taken) refl)
