use Rattle.std.proofs.Common.{map, subst, sym}
use Rattle.folder_store.specs.MailFolders.{Directories}
use Rattle.test_devices.{specs.MemoryFolders.{MayFind, found_file}, proofs.LeftLemmas.{have_there, there_of}}
use Rattle.test_devices.proofs.memory_folders.MemoryFolders.may_leave.Goals as goal

pub returns : goal.returns
returns c =
    let there = map found_file c.args.there.now in
    let may = rw c.deref.ensures.value at c.may_be_found.ensures in (
      λ is. subst (λ (d : Directories). MayFind d there) c.self.view_is (have_there _ there (may.0 is)),
      λ have. may.1 (there_of _ there (subst (λ (d : Directories). MayFind d there) (sym c.self.view_is) have)),
    )
