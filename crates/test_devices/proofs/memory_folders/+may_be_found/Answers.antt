use Rattle.std.proofs.Common.{◌∙◌, map, refl, sym, true≢false}
use Rattle.test_devices.{
  specs.MemoryFolders.{MayBeFound, found_file, stored_file},
  proofs.LeftLemmas.{MayGo, behind, goes_first, next_first, stays_first},
}
use Rattle.test_devices.proofs.memory_folders.+may_be_found.Goals as goal
use Rattle.test_devices.proofs.memory_folders.+may_be_found.Goals.{
  else-may_go-via-then-may_go+else-may_be_found,
  else-may_go-via-else-may_go,
}

pub returns-then-may_be_found : goal.returns-then-may_be_found
returns-then-may_be_found t c = (
  λ _. goes_first c.args.files.now c.file-item.result (map found_file c.args.there.now) c.in-len1-up.len_at_least c.file-item.is
      (c.may_go.ensures.0 c.if-may_go.true) (c.may_be_found.ensures.0 c.if-may_be_found.true),
  λ _. refl,
)

pub returns-then-may_be : goal.returns-then-may_be
returns-then-may_be t c =
    let stays : (MayGo (stored_file c.file-item.result)
    → MayBeFound (map stored_file (behind c.args.files.now)) (map found_file c.args.there.now) → ⊥) =
    elim c.else-may_go.branch [
      | else-may_go-via-then-may_go+else-may_be_found w ↦
          λ _ more. true≢false (sym (w.may_be_found.ensures.1 more) ∙ w.if-may_be_found.false)
      | else-may_go-via-else-may_go w ↦ λ go _. true≢false (sym (c.may_go.ensures.1 go) ∙ w.if-may_go.false)
    ] in (
      λ is. stays_first c.args.files.now c.file-item.result c.args.there.now c.first-item.result c.in-len1-up.len_at_least
          c.file-item.is c.in-len1-up-there.len_at_least c.first-item.is (c.may_be.ensures.0 c.if-may_be.true)
          (c.may_be_found-then-may_be.ensures.0 is),
      λ may. c.may_be_found-then-may_be.ensures.1
          (next_first c.args.files.now c.file-item.result c.args.there.now c.in-len1-up.len_at_least c.file-item.is stays may),
    )
