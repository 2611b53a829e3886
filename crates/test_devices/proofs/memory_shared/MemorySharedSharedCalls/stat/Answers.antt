use Rattle.std.proofs.Common.{◌≡◌, ◌∙◌, ap, refl, true}
use Rattle.mail_store.specs.{
  declared.maildir.disk.Folder.{Folder, TheVariants.{New, Cur}},
  Maildir.{Folders, all_there, is_there},
}
use Rattle.folder_store.specs.SharedCalls.{Shared, listed_in}
use Rattle.test_devices.specs.MemoryShared.{memory_shared}
use Rattle.test_devices.proofs.memory_shared.MemorySharedSharedCalls.stat.Goals as goal

listed_stays : (folder : Folder) (old new : Shared) → new ≡ record old { directories = new.directories }
    → listed_in folder new ≡ listed_in folder old
listed_stays New old new stays = ap (λ (s : Shared). s.new_listed) stays
listed_stays Cur old new stays = ap (λ (s : Shared). s.cur_listed) stays

all_are : (folder : Folder) (there : Folders) → there ≡ all_there → is_there there folder ≡ true
all_are New there all = ap (λ (t : Folders). t.new) all
all_are Cur there all = ap (λ (t : Folders). t.cur) all

pub returns : goal.returns
returns c = λ s.
    let stays = listed_stays c.args.folder (memory_shared c.args.self.now) (memory_shared c.begin.new.self) c.begin.ensures.stays in
    let there = all_are c.args.folder c.begin.new.self.folders.there c.are_there.ensures in (
      s,
      (
        c.begin.ensures.stays,
        (
          c.begin.new.self.folders,
          c.begin.ensures.moves,
          (refl, λ is. there, λ listed. c.in_ok-found.ensures.ok (stays ∙ listed)),
        ),
      ),
    )
