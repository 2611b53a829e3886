-- Visits of an account are calls, so all that is promised of lists of calls is promised of them.
use Rattle.std.specs.Prelude.{◌≡◌, ℕ, List, length, map}
use Rattle.pop3_wire.specs.{World.Message, declared.wire.Wire.Ghosts as WireGhosts}
use Rattle.rc_file.specs.declared.settings.Settings.{Settings}
use Rattle.mail_store.specs.declared.{
  file.flat_file.FlatFile.Ghosts as FileGhosts,
  maildir.disk.MaildirDisk.Ghosts as DiskGhosts,
}
use Rattle.session_parts.specs.{
  Account.Holding,
  declared.{work.Store.{Store, TheVariants.{Maildir as InMaildir, Mboxrd as InMbox}}, report.Report.Report},
}
use Rattle.fetch_session.specs.{declared.visits.Visit.Visit, Visits.AreMade}
use Rattle.fetch_runs.specs.{
  Calls.{ArePromised, AreMboxPromised, Called, Shows, ShowsMbox, account_over},
  Headline.{HoldMboxPrefixes, HoldPrefixes, HoldsAMboxPrefix, IsSound, World, selected_of},
  Progress.{Aim, GetFar, GetMboxFar, HasCome},
  Promises.{Base, Call, Devices, HoldsEntries, Invariant, IsFront, IsMaildrop, IsTextOf, Mail, State},
  Sessions.MboxMail,
  Visits.{AreCalls, Server},
}

-- visits of an account whose store is of this kind were calls of which this holds, whatever is said of their servers
abbrev pub VisitsAre : {W D F S : Type 0} → WireGhosts W → DiskGhosts D → FileGhosts F → (S → Store D F)
    → (Devices S F → List (Call W S F) → Type 0) → Type 0
VisitsAre {W} {D} {F} {S} link disk file In Holds = (settings : Settings) (first : Devices S F) (olds : List (Visit W))
    (reports : List Report) (news : List (Visit W)) (servers : List Server) (account : Holding D F)
    → AreMade link disk file olds (account_over In settings first) reports news account
    → length servers ≡ length olds
    → (last : Devices S F) × (account ≡ account_over In settings last) × (calls : List (Call W S F))
    × AreCalls link disk file In settings olds reports news servers first last calls × Holds first calls

-- with a Maildir: what is promised of any list of calls, of calls in order, and of progress
pub record KeepAll {W D F : Type 0} (link : WireGhosts W) (disk : DiskGhosts D) (file : FileGhosts F)
    (first : Devices D F) (calls : List (Call W D F)) : Type 0 where
  pub in_any_order : (mail : Mail) (state : State) → Shows disk file first state.account → Invariant mail state
      → ArePromised link disk file mail state first (map Called calls)
  pub in_order : (world : World Mail) (state : State) → IsSound world → Shows disk file first state.account
      → Invariant world.start state → IsFront world.start state (selected_of world)
      → HoldPrefixes link disk file world state first (map Called calls)
  pub progress : (mail : Mail) (aim : Aim) (before kept : ℕ) (state : State) → Shows disk file first state.account
      → Invariant mail state → HasCome (file.disk first.file) aim before kept state.account.rows
      → GetFar link disk file mail aim before kept state first (map Called calls)

-- with an mboxrd file
pub record KeepAllInMbox {W D F : Type 0} (link : WireGhosts W) (disk : DiskGhosts D) (file : FileGhosts F)
    (first : Devices F F) (calls : List (Call W F F)) : Type 0 where
  pub in_any_order : (base : Base) (done : List Message) (account : MboxMail) → ShowsMbox file first account
      → HoldsEntries base done account → AreMboxPromised link disk file base done account first (map Called calls)
  pub in_order : (world : World Base) (done : List Message) (account : MboxMail)
      → IsMaildrop (IsTextOf world.start) world.all → ShowsMbox file first account → HoldsAMboxPrefix world done account
      → HoldMboxPrefixes link disk file world done account first (map Called calls)
  pub progress : (aim : Aim) (before kept : ℕ) (base : Base) (done : List Message) (account : MboxMail)
      → ShowsMbox file first account → HoldsEntries base done account
      → HasCome (file.disk first.file) aim before kept account.rows
      → GetMboxFar link disk file aim before kept base done account first (map Called calls)

-- a law: so it is of visits
pub record VisitsKeepPromises {W D F : Type 0} (link : WireGhosts W) (disk : DiskGhosts D) (file : FileGhosts F)
    : Type 0 where
  pub maildir : VisitsAre link disk file InMaildir (KeepAll link disk file)
  pub mbox : VisitsAre link disk file InMbox (KeepAllInMbox link disk file)
