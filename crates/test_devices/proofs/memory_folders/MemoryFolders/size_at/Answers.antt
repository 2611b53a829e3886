use Rattle.std.proofs.{
  Common.{◌≡◌, ◌∙◌, ℕ, Some, ap, length, rules},
  lemmas.Iterator.{YieldsList-from_slice, Search.find_from_yields_List},
}
use Rattle.test_devices.{specs.MemoryFolders.{is_at, stored_file}, proofs.MemoryMail.first_size}
use Rattle.test_devices.proofs.memory_folders.MemoryFolders.size_at.Goals as goal

pub returns-in-Some : goal.returns-in-Some
returns-in-Some c =
    let files = c.self.inside.files.items in
    let folder = c.args.folder in
    let name = c.args.name.now in
    let found = find_from_yields_List (λ k. is_at folder name (stored_file k)) _ _ _ c.find.ensures.ran
    (YieldsList-from_slice files (c.iter.ensures.rest ∙ c.deref.ensures.value)) (λ x b q k. search rules) in
    let size : length c.as_slice.result.now ≡ length c.in-Some.file.now.content.items = search rules in
    rw (← c.self.view_is)
    (ap (λ (n : ℕ). Some n) size ∙ (rw c.in-Some.is at (first_size (is_at folder name) files _ found)))

pub returns-in-None : goal.returns-in-None
returns-in-None c =
    let files = c.self.inside.files.items in
    let folder = c.args.folder in
    let name = c.args.name.now in
    let found = find_from_yields_List (λ k. is_at folder name (stored_file k)) _ _ _ c.find.ensures.ran
    (YieldsList-from_slice files (c.iter.ensures.rest ∙ c.deref.ensures.value)) (λ x b q k. search rules) in
    rw (← c.self.view_is) (rw c.in-None.is at (first_size (is_at folder name) files _ found))
