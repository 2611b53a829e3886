-- Mail that is moved: from a maildrop, as that of a folder, into a Maildir, by calls of `fetch_local`, cut or not.
use Rattle.std.specs.{Prelude.{◌≡◌, ◌⊎◌, ℕ, true, List, [], ◌∷◌}, List.AllByRecursion}
use Rattle.mail_store.specs.{
  declared.{maildir.disk.MaildirDisk.Ghosts as DiskGhosts, file.flat_file.FlatFile.Ghosts as FileGhosts},
  FileName.stem_of,
}
use Rattle.pop3_wire.specs.{World.Message, declared.wire.Wire.Ghosts as WireGhosts}
use Rattle.mail_terms.specs.UniqueId.{has_id}
use Rattle.pop3_server.specs.{declared.maildrop.Maildrop.Ghosts as DropGhosts, LoopLink.Loop}
use Rattle.fetch_rules.specs.Limits.{SetsNoLimits}
use Rattle.session_parts.specs.{
  declared.work.Store.TheVariants.Maildir as InMaildir,
  declared.report.Outcome.TheVariants.Ended,
  Account.digits_of,
}
use Rattle.fetch_runs.specs.{
  Accounts.{AccountMail, copies},
  Promises.{ComesFor, Devices, Invariant, IsBetween, IsMaildrop, IsSafe, Mail, OneComes, State, state_with},
  Calls.{Called, Happening, IsLeftByLoss, IsPromised, Left, Lost, Shows, with_left},
  Losses.IsCrashSafe,
  Steps.IsIn,
}
use Rattle.local_fetch.specs.Fetches.{Fetch, IsFetch, ServerRemoves, as_call, shown_by}

-- the message is still in the maildrop; or it is gone from there, and is held or was taken away
abbrev pub IsSomewhere : Mail → State → List Message → Message → Type 0
IsSomewhere mail state there m = IsIn there m ⊎ ((has_id state.gone m.uid ≡ true) × IsSafe mail state m.uid)

-- the message is in one file, with its text; or it was taken away, and is in none
abbrev pub IsInOneFile : Mail → State → Message → Type 0
IsInOneFile mail state m = let texts = copies state.account.maildir.files (stem_of mail.account m.uid) in
    (texts ≡ m.text ∷ []) ⊎ ((state.taken m.uid ≡ true) × (texts ≡ []))

-- the call ended, and had no limits
pub record EndsWithoutLimits {M S F : Type 0} (fetch : Fetch M S F) : Type 0 where
  pub ended : fetch.report.outcome ≡ Ended
  pub unlimited : SetsNoLimits fetch.settings

-- each of these messages is somewhere; if the next of these happens, a call to a server with what is left of the
-- maildrop keeps its promises, and each is somewhere after it, and after others or a loss of power. If the call ended,
-- had no limits and met no odd name, each is in one file, or was taken away; and if it deletes, the maildrop is empty
abbrev pub MoveMail : {M D F : Type 0} → WireGhosts (Loop M) → DiskGhosts D → FileGhosts F → DropGhosts M → Mail
    → List Message → State → Devices D F → List Message → List (Happening (Fetch M D F) (Devices D F) AccountMail)
    → Type 0
MoveMail link disk file drop mail all state devices there [] = AllByRecursion (IsSomewhere mail state there) all
MoveMail link disk file drop mail all state devices there (Called fetch ∷ later) =
    AllByRecursion (IsSomewhere mail state there) all × (digits_of fetch.settings ≡ mail.account
    → shown_by drop fetch.server ≡ there → IsFetch link disk file drop InMaildir (ComesFor mail) devices fetch
    → (vanished : List (List ℕ)) × ServerRemoves drop fetch vanished
    × (is : IsPromised link disk file mail state devices (as_call drop fetch vanished))
    × let next = state_with mail (with_left mail state is.left) vanished is.after in
    (EndsWithoutLimits fetch → (disk.maildir fetch.after.store).odd ≡ [] → AllByRecursion (IsInOneFile mail next) all
    × (fetch.settings.delete ≡ true → shown_by drop fetch.wire.machine ≡ []))
    × MoveMail link disk file drop mail all next fetch.after (shown_by drop fetch.wire.machine) later)
MoveMail link disk file drop mail all state devices there (Left left account ∷ later) =
    AllByRecursion (IsSomewhere mail state there) all × (Shows disk file left account
    → IsBetween mail state.account account
    → MoveMail link disk file drop mail all (state_with mail state [] account) left there later)
MoveMail link disk file drop mail all state devices there (Lost left account ∷ later) =
    AllByRecursion (IsSomewhere mail state there) all × (IsCrashSafe (file.disk devices.file) mail state
    → IsLeftByLoss disk file devices left account
    → MoveMail link disk file drop mail all (record state { account = account }) left there later)

-- a law: so it is of the messages of a maildrop, whatever happens, from a state with the invariant on
abbrev pub MailIsMoved : {M D F : Type 0} → WireGhosts (Loop M) → DiskGhosts D → FileGhosts F → DropGhosts M → Type 0
MailIsMoved {M} {D} {F} link disk file drop = (mail : Mail) (all : List Message) (state : State) (devices : Devices D F)
    (list : List (Happening (Fetch M D F) (Devices D F) AccountMail)) → IsMaildrop (ComesFor mail) all → OneComes mail
    → Shows disk file devices state.account → Invariant mail state
    → MoveMail link disk file drop mail all state devices all list
