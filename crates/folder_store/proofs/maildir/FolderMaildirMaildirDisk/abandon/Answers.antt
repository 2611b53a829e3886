use Rattle.std.proofs.Common.{◌∙◌, None, sym}
use Rattle.folder_store.proofs.{MailCalls.maildir_same, MailMoves.moved_rests}
use Rattle.folder_store.proofs.maildir.FolderMaildirMaildirDisk.abandon.Goals as goal

pub returns-in-Some-clause-drops : goal.returns-in-Some-clause-drops
returns-in-Some-clause-drops g c = rw (sym c.take.ensures.value ∙ c.in-Some.is, c.take.ensures.after) (λ s.
    let t = c.discard.ensures s.0 in
    ((t.0, t.1, s.2), maildir_same _ _ None _ (moved_rests _ _ t.2)))
