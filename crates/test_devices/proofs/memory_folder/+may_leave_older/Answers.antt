use Rattle.std.proofs.{
  Common.{◌≡◌, ◌∙◌, ℕ, List, Option, Bor, ap, option_map, string_bytes, subst, sym, true≢false},
  lemmas.Slice.Eq.bytes_eq-Decides,
}
use Rattle.mail_store.specs.Durable.{Blob, IsLeftOf}
use Rattle.test_devices.{specs.MemoryFolder.blob_of, proofs.LeftFiles.{copied_blob, once_later, later_once}}
use Rattle.test_devices.proofs.memory_folder.+may_leave_older.Goals as goal
use Rattle.test_devices.proofs.memory_folder.+may_leave_older.Goals.{then-eq, else-eq}

pub returns-else-may_leave_of : goal.returns-else-may_leave_of
returns-else-may_leave_of t c =
    let left = option_map (λ (octets : Bor (List ℕ)). octets.now) c.args.left in
    let isnt : (string_bytes c.link-item.result.0 ≡ c.args.name.now → IsLeftOf (option_map blob_of c.link-item.result.1) left → ⊥) =
    elim c.if-eq.branch [
      | then-eq w ↦ λ _ here. true≢false (sym (w.may_leave_of.ensures.1 (subst (λ (o : Option Blob). IsLeftOf o left)
          (sym (copied_blob w.as_ref.result ∙ ap (option_map blob_of) w.as_ref.ensures.value)) here))
          ∙ sym w.value-is ∙ c.if-may_leave_of.false)
      | else-eq w ↦ λ named _. true≢false (sym ((bytes_eq-Decides _ _).1 (c.as_str.ensures.value ∙ named))
          ∙ sym c.eq.ensures ∙ w.if-eq.false)
    ] in (
      λ is. later_once c.args.older.now c.args.name.now left c.in-len1-up.len_at_least (c.may_leave_older.ensures.0 is),
      λ was. c.may_leave_older.ensures.1 (once_later c.args.older.now c.link-item.result c.args.name.now left
          c.in-len1-up.len_at_least c.link-item.is isnt was),
    )
