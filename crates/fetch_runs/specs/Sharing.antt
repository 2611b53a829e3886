-- Several fetchers that share an account: their calls are one list of calls, if one is at work at a time.
use Rattle.std.specs.Prelude.{◌≡◌, List, [], ◌∷◌}
use Rattle.pop3_wire.specs.declared.wire.Wire.{Ghosts as WireGhosts}
use Rattle.mail_store.specs.declared.{
  file.flat_file.FlatFile.Ghosts as FileGhosts,
  maildir.disk.MaildirDisk.Ghosts as DiskGhosts,
}
use Rattle.session_parts.specs.{Account.{digits_of}, declared.work.Store.TheVariants.{Maildir as InMaildir}}
use Rattle.fetch_runs.specs.{
  Accounts.AccountMail,
  Calls.{IsCall, IsPromised, Shows, with_left},
  Promises.{Call, ComesFor, Devices, Invariant, Mail, State, state_with},
}

-- a fetcher's turn: the devices that it made once nobody else was at work, what they show, and its call over them
pub record FetcherTurn (W D F : Type 0) : Type 0 where
  pub devices : Devices D F
  pub account : AccountMail
  pub call : Call W D F

-- the state has the invariant; if the next turn's devices show the rows and the files that the last call left, whoever
-- made it, its call keeps its promises, and so on
abbrev pub TurnsArePromised : {W D F : Type 0} → WireGhosts W → DiskGhosts D → FileGhosts F → Mail → State
    → List (FetcherTurn W D F) → Type 0
TurnsArePromised link disk file mail state [] = Invariant mail state
TurnsArePromised link disk file mail state (turn ∷ later) = Invariant mail state
    × (Shows disk file turn.devices turn.account → turn.account.rows ≡ state.account.rows
    → turn.account.maildir.files ≡ state.account.maildir.files → digits_of turn.call.settings ≡ mail.account
    → IsCall link disk file InMaildir disk.sound (ComesFor mail) turn.devices turn.call
    → let now = state_with mail state [] turn.account in
    (is : IsPromised link disk file mail now turn.devices turn.call)
    × TurnsArePromised link disk file mail (state_with mail (with_left mail now is.left) turn.call.vanished is.after)
    later)

-- a law: so it is of any turns
abbrev pub TurnsKeepPromises : {W D F : Type 0} → WireGhosts W → DiskGhosts D → FileGhosts F → Type 0
TurnsKeepPromises {W} {D} {F} link disk file = (mail : Mail) (state : State) (turns : List (FetcherTurn W D F))
    → Invariant mail state → TurnsArePromised link disk file mail state turns
