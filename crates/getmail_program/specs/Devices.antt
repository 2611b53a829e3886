-- Where the devices of a run are, and what they tell.
use Rattle.std.specs.{
  Option.{option_copied, option_or},
  Prelude.{◌≡◌, ℕ, Bool, true, false, List, [], Option, None, Some, IsSomeAnd, Vec, codes, if◌then◌else◌},
  Global.Global,
}
use Rattle.rc_file.specs.declared.settings.Dest.{Dest, TheVariants.{Maildir as ToMaildir, Mboxrd as ToMboxrd}}
use Rattle.session_parts.specs.declared.work.Store.{Store, TheVariants.{Maildir, Mboxrd}}
use Rattle.folder_store.specs.{
  CutOff.has_others,
  Handles.unflushed_path,
  HostPaths.{AreInMaildir, IsFileAt},
  declared.{
    calls.{FileCalls.{Ghosts as CallGhosts}, MadeHandle.{Ghosts as MadeGhosts}, OpenHandle.{Ghosts as OpenGhosts}},
    cut_off.CutOff.CutOff,
    file.HostFile.HostFile,
    file_folder.FolderState.{Ghosts as StateGhosts},
    host.CallsFolder.CallsFolder,
    host_folders.CallsFolders.CallsFolders,
    host_shared.CallsShared.CallsShared,
    maildir.FolderMaildir.FolderMaildir,
    shared_calls.SharedCalls.{Ghosts as SharedGhosts},
  },
}
use Rattle.getmail_program.specs.declared.errand.Noticed.{Noticed}

-- something is kept of what was cut off from an mboxrd file: of what this run cut off, unless that is known to have
-- been appended since; of what an earlier one did, a run that had nothing to fetch says no
abbrev pub KeepsRests : {F : Type 0} → Bool → Option (CutOff F) → Bool → Type 0
KeepsRests is_idle None keeps = is_idle ≡ true → keeps ≡ false
KeepsRests is_idle (Some kept) keeps =
    (has_others kept ≡ true → keeps ≡ true) × (is_idle ≡ true → keeps ≡ has_others kept)

module _ {C M O : Type 0} {calls : CallGhosts C M O} {made : MadeGhosts M} {open' : OpenGhosts O}
    {state : StateGhosts (CallsFolder C M O calls made open')} where
  -- a file is the one at a path
  abbrev pub IsAt : (path : List ℕ) → HostFile (CallsFolder C M O calls made open') state → Type 0
  IsAt path file = IsFileAt file.folder.paths file.name.now path

  module _ {R S F N : Type 0} {shared : SharedGhosts (CallsShared R C M O calls made open') S F}
      {drafts : MadeGhosts S} {mails : OpenGhosts F} where
    -- a store is made for a destination: a Maildir at its path; or an mboxrd file there, and what is cut off from it is
    -- kept at another path
    abbrev pub StoreFor : Dest → (path rests : List ℕ)
        → Store (FolderMaildir (CallsFolders (CallsShared R C M O calls made open') S F shared drafts mails) N)
        (HostFile (CallsFolder C M O calls made open') state) → Type 0
    StoreFor (ToMaildir name) path rests (Maildir maildir) =
        AreInMaildir maildir.folders.calls.new_folder.paths path (codes "new")
        × AreInMaildir maildir.folders.calls.cur_folder.paths path (codes "cur")
    StoreFor (ToMboxrd name) path rests (Mboxrd mbox) =
        IsAt path mbox × IsSomeAnd mbox.cut_off (λ kept. IsFileAt kept.folder.paths kept.name.now rests)
    StoreFor dest path rests store = ⊥

    -- something is kept of what was cut off from it
    abbrev pub StoreKeepsRests : Bool
        → Store (FolderMaildir (CallsFolders (CallsShared R C M O calls made open') S F shared drafts mails) N)
        (HostFile (CallsFolder C M O calls made open') state) → Bool → Type 0
    StoreKeepsRests is_idle (Maildir maildir) keeps = keeps ≡ false
    StoreKeepsRests is_idle (Mboxrd mbox) keeps = KeepsRests is_idle mbox.cut_off keeps

    -- what bears the names of messages in a Maildir and can't be opened
    abbrev pub obstructions_of :
        Store (FolderMaildir (CallsFolders (CallsShared R C M O calls made open') S F shared drafts mails) N)
        (HostFile (CallsFolder C M O calls made open') state) → List (Vec ℕ Global)
    obstructions_of (Maildir maildir) = maildir.folders.obstructions.items
    obstructions_of (Mboxrd mbox) = []

    -- a delivery into a Maildir was refused because something that is no file has its name
    abbrev pub is_name_taken :
        Store (FolderMaildir (CallsFolders (CallsShared R C M O calls made open') S F shared drafts mails) N)
        (HostFile (CallsFolder C M O calls made open') state) → Bool
    is_name_taken (Maildir maildir) = maildir.folders.is_name_taken
    is_name_taken (Mboxrd mbox) = false

    -- the path of a folder whose names weren't flushed because the system flushes no folders: the store's first
    abbrev pub unflushed_of :
        Store (FolderMaildir (CallsFolders (CallsShared R C M O calls made open') S F shared drafts mails) N)
        (HostFile (CallsFolder C M O calls made open') state)
        → HostFile (CallsFolder C M O calls made open') state → Option (List ℕ)
    unflushed_of (Maildir maildir) seen_file = option_or
        (option_or (unflushed_path maildir.folders.calls.new_folder.handles)
        (unflushed_path maildir.folders.calls.cur_folder.handles)) (unflushed_path seen_file.folder.handles)
    unflushed_of (Mboxrd mbox) seen_file = option_or (unflushed_path mbox.folder.handles)
        (unflushed_path seen_file.folder.handles)

    -- this was noticed of a run's devices; of a folder whose names weren't flushed and of new ids only if reasons are
    -- asked for
    pub record IsNoticed (says_why : Bool) (SaysNew : Type 0) (is_idle : Bool)
        (store : Store (FolderMaildir (CallsFolders (CallsShared R C M O calls made open') S F shared drafts mails) N)
        (HostFile (CallsFolder C M O calls made open') state))
        (seen_file : HostFile (CallsFolder C M O calls made open') state) (noticed : Noticed) : Type 0 where
      pub rests : StoreKeepsRests is_idle store noticed.keeps_rests
      pub obstructions : noticed.obstructions.now ≡ obstructions_of store
      pub refusal : is_name_taken store ≡ false → noticed.refusal ≡ None
      pub unflushed : option_copied noticed.unflushed ≡ (if says_why then unflushed_of store seen_file else None)
      pub new_ids : noticed.has_new_ids ≡ true → (says_why ≡ true) × SaysNew
