-- Turns of several fetchers are one list of calls.
use Rattle.std.proofs.Common.{◌≡◌, List, [], ◌∷◌}
use Rattle.pop3_wire.specs.declared.wire.Wire.{Ghosts as WireGhosts}
use Rattle.mail_store.specs.declared.{
  file.flat_file.FlatFile.Ghosts as FileGhosts,
  maildir.disk.MaildirDisk.Ghosts as DiskGhosts,
}
use Rattle.fetch_runs.{
  specs.{Calls.{Called, CallsKeepPromises, with_left}, Promises.{IsBetween, Invariant, Mail, State, state_with}},
  specs.Sharing.{FetcherTurn, TurnsArePromised, TurnsKeepPromises},
  specs.Accounts.AccountMail,
  proofs.Promised.others_leave_kept,
}

-- the same rows and files
same_between : (mail : Mail) (state : State) (account : AccountMail) → Invariant mail state → account.rows ≡ state.account.rows
    → account.maildir.files ≡ state.account.maildir.files → IsBetween mail state.account account
same_between mail state account kept rows files = record {
  holds = λ id l. rw files (kept.holds id l);
  shows_no_more = λ id d. rw rows at d;
}

pub turns_keep_promises : {W D F : Type 0} (link : WireGhosts W) (disk : DiskGhosts D) (file : FileGhosts F)
    → CallsKeepPromises link disk file → TurnsKeepPromises link disk file
turns_keep_promises {W} {D} {F} link disk file law mail state turns kept = go turns state kept
  where
    go : (turns : List (FetcherTurn W D F)) (state : State) → Invariant mail state → TurnsArePromised link disk file mail state turns
    go [] state kept = kept
    go (turn ∷ later) state kept = (
      kept,
      λ shows rows files account_is is.
          let now = state_with mail state [] turn.account in
          let kept' = others_leave_kept mail state turn.account kept (same_between mail state turn.account kept rows files) in
          let (promised, (_, after)) = (law mail now turn.devices (Called turn.call ∷ []) shows kept').2 account_is is in
          (promised, go later (state_with mail (with_left mail now promised.left) turn.call.vanished promised.after) after),
    )
