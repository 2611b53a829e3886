-- Progress: over a maildrop that stays, but for messages that are done, each uncut call that reads only what is new
-- records as many more messages as its limit says, until all are recorded. Each of these is held or was taken away, or
-- has its entry.
use Rattle.std.specs.{
  Prelude.{◌≡◌, ◌≢◌, ◌⊎◌, ◌≤◌, ◌+◌, ◌*◌, ℕ, Bool, true, false, List, [], ◌∷◌, ◌++◌, length},
  List.{AllByRecursion, filter},
}
use Rattle.pop3_wire.specs.{World.Message, declared.wire.Wire.Ghosts as WireGhosts}
use Rattle.fetch_record.specs.Record.{Row, is_delivered}
use Rattle.fetch_rules.specs.{Limits.SetsLimits, Wanted.limit_or_all}
use Rattle.mail_store.specs.{
  Durable.Disk,
  declared.{file.flat_file.FlatFile.Ghosts as FileGhosts, maildir.disk.MaildirDisk.Ghosts as DiskGhosts},
}
use Rattle.session_parts.specs.{
  Account.digits_of,
  declared.{
    work.Store.TheVariants.{Maildir as InMaildir, Mboxrd as InMbox},
    report.Outcome.{Outcome, TheVariants.{Ended, Cut}},
  },
}
use Rattle.fetch_runs.specs.{
  Accounts.{AccountMail, selected, without},
  Sessions.MboxMail,
  Promises.{AppendsMail, Base, Call, ComesFor, Devices, HoldsEntries, IsBetween, IsTextOf, Invariant, Mail, State},
  Promises.{is_entered, is_safe, state_with},
  Calls.{Called, Happening, IsCall, IsLeftByLoss, IsMboxLeftByLoss, IsPromised, Left, Lost, Shows, ShowsMbox},
  Calls.with_left,
  Losses.{IsCrashSafe, KeepsDurable, LeavesRows, ShowsAll, TrustsMbox, TrustsRecord},
}

-- what stays from call to call: the maildrop, the limit on sizes, and how many messages a call may fetch; 0 is no limit
pub record Aim : Type 0 where
  pub maildrop : List Message
  pub size_limit : ℕ
  pub count_limit : ℕ

-- the messages within the limit on sizes
abbrev pub aimed : Aim → List Message
aimed aim = selected aim.size_limit aim.maildrop

-- how many of these have ids of this kind
abbrev pub count_done : Aim → (List ℕ → Bool) → ℕ
count_done aim is_done = length (filter (λ (m : Message). is_done m.uid) (aimed aim))

-- how many a call may fetch
abbrev pub share : Aim → ℕ
share aim = limit_or_all aim.count_limit (length (aimed aim))

-- all are done, or at least as many as so many calls may fetch
abbrev pub IsFar : Aim → ℕ → (List ℕ → Bool) → Type 0
IsFar aim calls is_done = (calls * share aim ≤ count_done aim is_done) ⊎ (length (aimed aim) ≤ count_done aim is_done)

-- the call is over this maildrop, from which messages may be gone whose ids are of this kind, has these limits and
-- no others, and reads only what is new
pub record IsTowards {W S F : Type 0} (aim : Aim) (is_done : List ℕ → Bool) (call : Call W S F) : Type 0 where
  pub gone : List (List ℕ)
  pub done : AllByRecursion (λ id. is_done id ≡ true) gone
  pub shown : call.maildrop ≡ without gone aim.maildrop
  pub limits : SetsLimits call.settings aim.size_limit aim.count_limit
  pub only_new : call.settings.read_all ≡ false

-- one more call is uncut, if this one is
abbrev pub uncut_after : ℕ → Outcome → ℕ
uncut_after calls Ended = calls + 1
uncut_after calls (Cut fault) = calls

-- after so many uncut calls these rows show so many as delivered; and whatever a loss of power may leave of the
-- record's file shows as many as after `kept` of these calls
pub record HasCome (disk : Disk) (aim : Aim) (calls kept : ℕ) (rows : List Row) : Type 0 where
  pub far : IsFar aim calls (is_delivered rows)
  pub fewer : kept ≤ calls
  pub left : LeavesRows disk (λ rows. IsFar aim kept (is_delivered rows))

-- how many calls count in a loss of power after this one: none; or if no flush was refused as many as before it, or all
-- until now, if it was uncut and changed the record's rows, or whatever could be left of the record before showed all
abbrev pub CountsOn : (trusts : Type 0) → Disk → (calls kept : ℕ) → Outcome → (rows rows' : List Row) → ℕ → Type 0
CountsOn trusts disk calls kept outcome rows rows' next = (next ≡ 0) ⊎ (trusts × ((next ≡ kept)
    ⊎ ((outcome ≡ Ended) × ((rows' ≢ rows) ⊎ LeavesRows disk (ShowsAll rows)) × (next ≡ calls + 1))))

-- ---- with a Maildir

-- so it is; if the next of these happens, a call that meets no odd name keeps its promises, and records at most as many
-- more as it may fetch than were held or taken away; and so it is after it, and after others that leave in the record
-- what was in it. A loss of power leaves what counts in it, and it goes on from there, or from what the record then
-- shows
abbrev pub GetFar : {W D F : Type 0} → WireGhosts W → DiskGhosts D → FileGhosts F → Mail → Aim → (calls kept : ℕ)
    → State → Devices D F → List (Happening (Call W D F) (Devices D F) AccountMail) → Type 0
GetFar link disk file mail aim calls kept state devices [] =
    Invariant mail state × HasCome (file.disk devices.file) aim calls kept state.account.rows
GetFar link disk file mail aim calls kept state devices (Called call ∷ later) = Invariant mail state
    × HasCome (file.disk devices.file) aim calls kept state.account.rows × (digits_of call.settings ≡ mail.account
    → IsCall link disk file InMaildir disk.sound (ComesFor mail) devices call
    → IsTowards aim (is_delivered state.account.rows) call → (disk.maildir call.after.store).odd ≡ []
    → (is : IsPromised link disk file mail state devices call)
    × (count_done aim (is_delivered is.after.rows) ≤ count_done aim (is_safe mail state) + share aim) × ((next : ℕ)
    → CountsOn (TrustsRecord file devices.file call.after.file) (file.disk devices.file) calls kept call.report.outcome
    state.account.rows is.after.rows next → GetFar link disk file mail aim (uncut_after calls call.report.outcome) next
    (state_with mail (with_left mail state is.left) call.vanished is.after) call.after later))
GetFar link disk file mail aim calls kept state devices (Left left account ∷ later) = Invariant mail state
    × HasCome (file.disk devices.file) aim calls kept state.account.rows × (Shows disk file left account
    → IsBetween mail state.account account → ShowsAll state.account.rows account.rows → (next : ℕ)
    → (next ≡ 0) ⊎ (KeepsDurable file mail.account state.account devices.file left.file account × (next ≡ kept))
    → GetFar link disk file mail aim calls next (state_with mail state [] account) left later)
GetFar link disk file mail aim calls kept state devices (Lost left account ∷ later) = Invariant mail state
    × HasCome (file.disk devices.file) aim calls kept state.account.rows
    × (IsCrashSafe (file.disk devices.file) mail state → IsLeftByLoss disk file devices left account
    → HasCome (file.disk left.file) aim kept kept account.rows
    × ((since next : ℕ) → HasCome (file.disk left.file) aim since next account.rows
    → GetFar link disk file mail aim since next (record state { account = account }) left later))

-- the law: so it is of any list, from any state with the invariant on
abbrev pub CallsGetFar : {W D F : Type 0} → WireGhosts W → DiskGhosts D → FileGhosts F → Type 0
CallsGetFar {W} {D} {F} link disk file = (mail : Mail) (aim : Aim) (calls kept : ℕ) (state : State)
    (devices : Devices D F) (list : List (Happening (Call W D F) (Devices D F) AccountMail))
    → Shows disk file devices state.account → Invariant mail state
    → HasCome (file.disk devices.file) aim calls kept state.account.rows
    → GetFar link disk file mail aim calls kept state devices list

-- a law: an uncut call with a limit on their number, over at least as many messages within the limit on sizes, none of
-- which is held or was taken away, records exactly as many of these
abbrev pub CallsRecordTheLimit : {W D F : Type 0} → WireGhosts W → DiskGhosts D → FileGhosts F → Type 0
CallsRecordTheLimit {W} {D} {F} link disk file = (mail : Mail) (aim : Aim) (state : State) (devices : Devices D F)
    (call : Call W D F) → Shows disk file devices state.account → Invariant mail state
    → digits_of call.settings ≡ mail.account → IsCall link disk file InMaildir disk.sound (ComesFor mail) devices call
    → IsTowards aim (is_delivered state.account.rows) call → (disk.maildir call.after.store).odd ≡ []
    → call.report.outcome ≡ Ended → aim.count_limit ≢ 0 → aim.count_limit ≤ length (aimed aim)
    → AllByRecursion (λ (m : Message). is_safe mail state m.uid ≡ false) (aimed aim)
    → (after : AccountMail) × Shows disk file call.after after
    × (count_done aim (is_delivered after.rows) ≡ aim.count_limit)
    × AllByRecursion (λ id. is_delivered after.rows id ≡ true) call.vanished

-- ---- with an mboxrd file

-- the same of entries: an uncut call records at most as many as it may fetch beside those that it knew or found whole;
-- what is recorded has one, or was recorded before the first call. What others or a loss of power left goes on from
-- what has come there
abbrev pub GetMboxFar : {W D F : Type 0} → WireGhosts W → DiskGhosts D → FileGhosts F → Aim → (calls kept : ℕ) → Base
    → List Message → MboxMail → Devices F F → List (Happening (Call W F F) (Devices F F) MboxMail) → Type 0
GetMboxFar link disk file aim calls kept base done account devices [] =
    HoldsEntries base done account × HasCome (file.disk devices.file) aim calls kept account.rows
GetMboxFar link disk file aim calls kept base done account devices (Called call ∷ later) =
    (holds : HoldsEntries base done account) × HasCome (file.disk devices.file) aim calls kept account.rows
    × (IsCall link disk file InMbox file.sound (IsTextOf base) devices call
    → IsTowards aim (is_delivered account.rows) call
    → (sent : List ℕ) × (after : MboxMail) × (appends : AppendsMail base holds call sent after)
    × (call.report.outcome ≡ Ended → count_done aim (is_delivered after.rows)
    ≤ count_done aim (is_entered base (done ++ appends.found)) + share aim) × ((next : ℕ)
    → CountsOn (TrustsMbox file devices call.after) (file.disk devices.file) calls kept call.report.outcome account.rows
    after.rows next
    → GetMboxFar link disk file aim (uncut_after calls call.report.outcome) next base (done ++ appends.more) after
    call.after later))
GetMboxFar link disk file aim calls kept base done account devices (Left left now ∷ later) =
    HoldsEntries base done account × HasCome (file.disk devices.file) aim calls kept account.rows
    × (ShowsMbox file left now → (from : Base) (first : List Message)
    → HoldsEntries from first now → (since next : ℕ) → HasCome (file.disk left.file) aim since next now.rows
    → GetMboxFar link disk file aim since next from first now left later)
GetMboxFar link disk file aim calls kept base done account devices (Lost left now ∷ later) =
    HoldsEntries base done account × HasCome (file.disk devices.file) aim calls kept account.rows
    × (IsMboxLeftByLoss file devices left now → HasCome (file.disk left.file) aim kept kept now.rows
    × ((from : Base) (first : List Message) → HoldsEntries from first now → (since next : ℕ)
    → HasCome (file.disk left.file) aim since next now.rows
    → GetMboxFar link disk file aim since next from first now left later))

-- the law: so it is of any list
abbrev pub MboxCallsGetFar : {W D F : Type 0} → WireGhosts W → DiskGhosts D → FileGhosts F → Type 0
MboxCallsGetFar {W} {D} {F} link disk file = (aim : Aim) (calls kept : ℕ) (base : Base) (done : List Message)
    (account : MboxMail) (devices : Devices F F) (list : List (Happening (Call W F F) (Devices F F) MboxMail))
    → ShowsMbox file devices account → HoldsEntries base done account
    → HasCome (file.disk devices.file) aim calls kept account.rows
    → GetMboxFar link disk file aim calls kept base done account devices list
