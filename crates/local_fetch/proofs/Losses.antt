-- What a loss of power may leave of a Maildir and of files is left of an account's devices.
use Rattle.std.{
  proofs.Common.{◌≡◌, refl, sym, ap, subst, inl, ◌∙◌, ℕ, List, [], ◌∷◌, Option, Some, None, false, true},
  proofs.lemmas.Slice.Eq.bytes_eq-Decides,
  specs.Prelude.option_map,
}
use Rattle.mail_store.{
  specs.Devices.stored_in,
  specs.declared.{maildir.disk.MaildirDisk.Ghosts as DiskGhosts, file.flat_file.FlatFile.Ghosts as FileGhosts},
  specs.{Durable.{Blob, IsLeftOf, MayLeave, content_in}, Maildir.{File, names_of}},
  proofs.DiskLemmas.may_now,
}
use Rattle.folder_store.{
  specs.{FileFolder.{Directory, content_at, entry, find}, MailFolders.MailFile, PowerLoss.disk_at},
  proofs.Files.find_here,
}
use Rattle.test_devices.specs.Losses.{FilesAreLost, MailIsLost}
use Rattle.session_parts.specs.Target.{mail_in}
use Rattle.fetch_runs.specs.{
  Accounts.AccountMail,
  Calls.{IsLeftByLoss, IsMboxLeftByLoss, Shows, ShowsMbox},
  Losses.IsFileLeft,
  Promises.Devices,
  Sessions.MboxMail,
}
use Rattle.local_fetch.specs.Losses.{LossesHappen, MboxLossesHappen}

file_left : {F : Type 0} (file : FileGhosts F) (from left : F) (bytes : Option (List ℕ)) → MayLeave (file.disk from) bytes
    → (stored_in file left).content ≡ bytes → ((other : Option (List ℕ)) → MayLeave (file.disk left) other → other ≡ bytes)
    → IsFileLeft file from left
file_left file from left bytes may same only = record { is = rw same may; durable = λ other is. only other is ∙ sym same }

pub losses_happen : {D F : Type 0} (disk : DiskGhosts D) (file : FileGhosts F) → MailIsLost disk → FilesAreLost file
    → LossesHappen disk file
losses_happen disk file mail_lost file_lost from account bytes rows intent shows may stands =
    let (store, loses, fewer) = mail_lost from.store in
    let (f, same, only) = file_lost from.file bytes may in (
      record { store = store; file = f },
      record { rows = rows; maildir = disk.maildir store },
      record {
        maildir = loses;
        record_is = file_left file from.file f bytes may same only;
        shows = record { intent = intent; record_is = rw same stands; maildir = refl };
      },
      refl,
      rw shows.maildir fewer,
    )

pub mbox_losses_happen : {F : Type 0} (file : FileGhosts F) → FilesAreLost file → MboxLossesHappen file
mbox_losses_happen file lost from mbox bytes rows intent may_mbox may stands =
    let (store, same_mbox, only_mbox) = lost from.store mbox may_mbox in
    let (f, same, only) = lost from.file bytes may in (
      record { store = store; file = f },
      record {
        mbox_is = file_left file from.store store mbox may_mbox same_mbox only_mbox;
        record_is = file_left file from.file f bytes may same only;
        shows = record { record_is = rw same stands; bytes = rw same_mbox refl };
      },
    )

-- files without names are none
no_names : (files : List File) → names_of files ≡ [] → files ≡ []
no_names [] none = refl
no_names (f ∷ files) none = absurd (let never = none in cc)

-- a file whose name isn't durable, beside no record, is taken
pub names_are_taken : {D F : Type 0} (disk : DiskGhosts D) (file : FileGhosts F) → MailIsLost disk → FilesAreLost file
    → (store : D) (f : F) (one : File) → (disk.maildir store).files ≡ one ∷ [] → one.is_named ≡ false
    → (stored_in file f).content ≡ None → MayLeave (file.disk f) None
    → (from left : Devices D F) × (account after : AccountMail) × Shows disk file from account
    × IsLeftByLoss disk file from left after × ((g : File) × (account.maildir.files ≡ g ∷ [])) × (after.maildir.files ≡ [])
names_are_taken {D} {F} disk file mail_lost file_lost store f one is_one unnamed no_record may =
    let from : Devices D F = record { store = store; file = f } in
    let account : AccountMail = record { rows = []; maildir = disk.maildir store } in
    let shows : Shows disk file from account = record { intent = None; record_is = rw no_record (refl, refl); maildir = refl } in
    let (left, after, lost, _, fewer) =
    losses_happen disk file mail_lost file_lost from account None [] None shows may (refl, refl) in
    (from, left, account, after, shows, lost, (one, is_one), no_names after.maildir.files (fewer ∙ rw (is_one, unnamed) refl))

-- a byte of an mboxrd file that wasn't flushed, beside no record, is taken
pub bytes_are_taken : {F : Type 0} (file : FileGhosts F) → FilesAreLost file → (store f : F) (byte : ℕ)
    → (stored_in file store).content ≡ Some (byte ∷ []) → MayLeave (file.disk store) (Some [])
    → (stored_in file f).content ≡ None → MayLeave (file.disk f) None
    → (from left : Devices F F) × (account after : MboxMail) × ShowsMbox file from account
    × IsMboxLeftByLoss file from left after × ((b : ℕ) × (account.file ≡ b ∷ [])) × (after.file ≡ [])
bytes_are_taken {F} file lost store f byte is_byte may_store no_record may =
    let from : Devices F F = record { store = store; file = f } in
    let account : MboxMail = record { rows = []; intent = None; file = mail_in (stored_in file store).content } in
    let shows : ShowsMbox file from account = record { record_is = rw no_record (refl, refl); bytes = refl } in
    let (left, is_left) = mbox_losses_happen file lost from (Some []) None [] None may_store may (refl, refl) in
    (from, left, account, _, shows, is_left, (byte, ap mail_in is_byte), refl)

-- a file that was appended to and not flushed
abbrev pub unflushed_blob : Blob
unflushed_blob = record { content = 65 ∷ []; flushed = []; uncut = 0; is_doubted = false }

abbrev pub folder_with : List ℕ → Directory
folder_with name = record { can_make = true; entries = entry name unflushed_blob ∷ []; older = [] }

finds_unflushed : (name : List ℕ) → find name (entry name unflushed_blob ∷ []) ≡ Some unflushed_blob
finds_unflushed name = find_here name (entry name unflushed_blob) [] ((bytes_eq-Decides name name).1 refl)

pub seen_unflushed : (name : List ℕ) → content_at (folder_with name) name ≡ Some (65 ∷ [])
seen_unflushed name = ap (option_map content_in) (finds_unflushed name)

pub may_be_empty : (name : List ℕ) → MayLeave (disk_at (folder_with name) name) (Some [])
may_be_empty name = may_now (disk_at (folder_with name) name) (Some [])
    (subst (λ now. IsLeftOf now (Some [])) (sym (finds_unflushed name)) (inl refl))

-- a folder without files
abbrev pub empty_folder : Directory
empty_folder = record { can_make = true; entries = []; older = [] }

pub may_be_none : (name : List ℕ) → MayLeave (disk_at empty_folder name) None
may_be_none name = may_now (disk_at empty_folder name) None tt

-- a file in `new` whose name isn't durable
abbrev pub unnamed : MailFile
unnamed = record {
  is_new = true;
  name = [];
  content = [];
  is_flushed = true;
  is_named = false;
  left_new = false;
  left_cur = false;
  is_gone = false;
}
