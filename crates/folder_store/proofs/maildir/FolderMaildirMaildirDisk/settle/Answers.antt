use Rattle.std.proofs.Common.{◌∙◌, None, inl, sym}
use Rattle.folder_store.proofs.{MailCalls.{maildir_same, not_settled}, MailMoves.moved_rests}
use Rattle.folder_store.proofs.maildir.FolderMaildirMaildirDisk.settle.Goals as goal

pub returns-then-not-is_file_name-clause-settles : goal.returns-then-not-is_file_name-clause-settles
returns-then-not-is_file_name-clause-settles g c = rw (sym c.take.ensures.value ∙ c.in-Some.is, c.take.ensures.after) (λ s.
    let t = c.discard.ensures s.0 in (
      (t.0, t.1, c.in_default.ensures.admitted),
      λ f h. inl (rw c.refuse-then-not-is_file_name.ensures.counted (maildir_same _ _ None _ (moved_rests _ _ t.2))),
    ))

pub returns-in-Err-put_durably-clause-settles : goal.returns-in-Err-put_durably-clause-settles
returns-in-Err-put_durably-clause-settles g c =
    let was = sym c.take.ensures.value ∙ c.in-Some.is in
    rw (was, c.take.ensures.after) (λ s.
    let (held, (made, put)) = c.in-Err-put_durably.ensures s.0 in (
      (held, made, c.in_default.ensures.admitted),
      λ f h. not_settled _ _ _ f c.args.name.now _ _ c.in-Err-put_durably.field-0
          c.refuse-in-Err-put_durably.ensures.counted h put,
    ))
