use Rattle.std.proofs.Common.{⊎_elim, ◌∙◌, ℕ, List, Bor, option_map, subst, sym, true≢false}
use Rattle.folder_store.{
  specs.{FileFolder.Directory, PowerLoss.MayBe},
  proofs.Files.{may_be_now, may_be_older},
}
use Rattle.test_devices.proofs.{LeftFiles.now_or_once, MemoryFiles.memory_in}
use Rattle.test_devices.proofs.memory_folder.MemoryFolder.may_leave.Goals as goal

pub returns-then-may_leave_of : goal.returns-then-may_leave_of
returns-then-may_leave_of c =
    let left = option_map (λ (octets : Bor (List ℕ)). octets.now) c.args.left in
    let now = rw (c.stored_at.ensures, c.deref.ensures.value) at (c.may_leave_of.ensures.0 c.if-may_leave_of.true) in (
      λ _. subst (λ (d : Directory). MayBe d c.args.name.now left) c.self.view_is
          (may_be_now (memory_in c.self.inside.files.items c.self.inside.older.items) c.args.name.now left now),
      λ _. c.if-may_leave_of.true,
    )

pub returns-else-may_leave_of : goal.returns-else-may_leave_of
returns-else-may_leave_of c =
    let left = option_map (λ (octets : Bor (List ℕ)). octets.now) c.args.left in
    let d = memory_in c.self.inside.files.items c.self.inside.older.items in
    let now = rw (c.stored_at.ensures, c.deref.ensures.value) at c.may_leave_of.ensures in
    let older = rw c.deref-else-may_leave_of.ensures.value at c.may_leave_older.ensures in (
      λ is. subst (λ (d : Directory). MayBe d c.args.name.now left) c.self.view_is
          (may_be_older d c.args.name.now left (older.0 is)),
      λ may. ⊎_elim (λ is. absurd (true≢false (sym (now.1 is) ∙ c.if-may_leave_of.false))) (λ was. older.1 was)
          (now_or_once d c.args.name.now left (subst (λ (d : Directory). MayBe d c.args.name.now left) (sym c.self.view_is) may)),
    )
