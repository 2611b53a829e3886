use Rattle.std.proofs.Common.{[], ◌∷◌, None, false, refl}
use Rattle.folder_store.specs.MailFolders.{mail_at}
use Rattle.local_fetch.proofs.Losses as lemmas
use Rattle.local_fetch.proofs.laws.losses_happen.Goals as goal

pub returns-clause-maildir : goal.returns-clause-maildir
returns-clause-maildir c = lemmas.losses_happen _ _ c.mail_is_lost.ensures c.files_are_lost.ensures

pub returns-clause-mbox : goal.returns-clause-mbox
returns-clause-mbox c = lemmas.mbox_losses_happen _ c.files_are_lost.ensures

pub returns-clause-taken : goal.returns-clause-taken
returns-clause-taken c any = lemmas.names_are_taken _ _ c.mail_is_lost.ensures c.files_are_lost.ensures
    (record any.store {
      folders = record any.store.folders { entries = lemmas.unnamed ∷ [] };
      begun = None;
      failures = 0;
    })
    (record any.file {
      folder = lemmas.empty_folder;
      is_flushed = false;
      settled = record { flushed = λ never. absurd (let e = never in cc) };
    }) (mail_at lemmas.unnamed) refl refl refl (lemmas.may_be_none any.file.name.now)

pub returns-clause-mbox_taken : goal.returns-clause-mbox_taken
returns-clause-mbox_taken c any = lemmas.bytes_are_taken _ c.files_are_lost.ensures
    (record any.store {
      folder = lemmas.folder_with any.store.name.now;
      is_flushed = false;
      settled = record { flushed = λ never. absurd (let e = never in cc) };
    })
    (record any.file {
      folder = lemmas.empty_folder;
      is_flushed = false;
      settled = record { flushed = λ never. absurd (let e = never in cc) };
    }) 65 (lemmas.seen_unflushed any.store.name.now) (lemmas.may_be_empty any.store.name.now) refl
    (lemmas.may_be_none any.file.name.now)
