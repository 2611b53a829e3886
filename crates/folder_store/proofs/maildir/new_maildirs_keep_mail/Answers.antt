use Rattle.std.proofs.Common.{refl}
use Rattle.folder_store.proofs.MailMoves.{files_moved, left_as}
use Rattle.mail_store.proofs.LossLemmas.{left_durable}
use Rattle.folder_store.proofs.maildir.new_maildirs_keep_mail.Goals as goal

pub returns-clause-losses : goal.returns-clause-losses
returns-clause-losses g c = λ device left odd loses. record {
  there = loses.there;
  files = left_as (g.F.MailFolders.directories device.folders).entries left.entries loses.each;
  begun = refl;
  taken = loses.taken;
}

pub returns-clause-keeps : goal.returns-clause-keeps
returns-clause-keeps g c = λ was device found.
    files_moved (g.F.MailFolders.directories was.folders).entries (g.F.MailFolders.directories device.folders).entries found.moves

pub returns-clause-stays : goal.returns-clause-stays
returns-clause-stays g c = λ old left device loses found.
    rw (files_moved left.entries (g.F.MailFolders.directories device.folders).entries found.moves)
    (left_durable _ _ (left_as old.entries left.entries loses.each))
