use Rattle.std.proofs.Common.{◌≡◌, ◌∙◌, ap₂, filter, map, refl, string_bytes}
use Rattle.mail_store.specs.Held.{asks, is_sought}
use Rattle.folder_store.specs.{MailCalls.file_names, MailFolders.{closed_in, entries_in, name_at}}
use Rattle.test_devices.proofs.OddNames.{closed_are, odd_told, told_beside}
use Rattle.test_devices.proofs.memory_folders.MemoryFolders.listed.Goals as goal

pub returns-clause-files : goal.returns-clause-files
returns-clause-files c =
    let files = c.in_ok-names-2.names.items in
    rw c.in-Items.is (told_beside files _ _ _ _ (rw c.deref-4.ensures.value at c.in_ok-odd.ensures.1)
    c.in_ok-clone.ensures.cases.0 c.in_ok-append.ensures.items ∙ c.in_ok-names-2.ensures
    ∙ rw (c.deref-2.ensures.value, c.in_ok-names.ensures, c.deref.ensures.value, ← c.self.view_is) refl)

pub returns-clause-odd : goal.returns-clause-odd
returns-clause-odd c =
    let others = rw c.deref-4.ensures.value at c.in_ok-odd.ensures.1 in
    let sought = filter (is_sought (asks c.in-Items.asked)) in
    let obstacles = map string_bytes c.self.inside.obstacles.items in
    let closed : closed_in c.args.folder c.args.self.now ≡ obstacles =
    closed_are c.args.folder c.args.self.now obstacles (rw (← c.self.view_is) refl) (rw (← c.self.view_is) refl) in
    let names : map string_bytes c.in_ok-names-2.names.items ≡ sought (map name_at (entries_in c.args.folder c.args.self.now.entries)) =
    c.in_ok-names-2.ensures ∙ rw (c.deref-2.ensures.value, c.in_ok-names.ensures, c.deref.ensures.value, ← c.self.view_is) refl in
    let odd : map string_bytes c.in_ok-obstacles.obstacles.items ≡ sought (closed_in c.args.folder c.args.self.now) =
    c.in_ok-obstacles.ensures ∙ rw (c.deref-3.ensures.value, closed) refl in
    rw c.in-Items.is (
      others ∙ ap₂ file_names names odd,
      odd_told c.in_ok-names-2.names.items _ _ _ _ others c.in_ok-clone.ensures.cases.0 c.in_ok-append.ensures.items,
    )
