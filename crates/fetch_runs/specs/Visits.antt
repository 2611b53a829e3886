-- Visits of an account, one after another, each over its own link: as calls of `session`, of which lists are promised
-- things.
use Rattle.std.specs.Prelude.{◌≡◌, ℕ, false, List, [], ◌∷◌, ◌++◌, length}
use Rattle.pop3_wire.specs.{World.Message, declared.wire.Wire.Ghosts as WireGhosts}
use Rattle.rc_file.specs.declared.settings.Settings.{Settings}
use Rattle.mail_store.specs.declared.{
  file.flat_file.FlatFile.Ghosts as FileGhosts,
  maildir.disk.MaildirDisk.Ghosts as DiskGhosts,
}
use Rattle.session_parts.specs.{
  Account.{Holding, digits_of},
  declared.{work.Store.{Store, TheVariants.{Maildir as InMaildir, Mboxrd as InMbox}}, report.Report.Report},
}
use Rattle.fetch_session.specs.{declared.visits.Visit.Visit, Visits.{AreMade, WasMade}}
use Rattle.fetch_runs.specs.{
  Calls.{IsCall, Shows, ShowsMbox, account_over},
  Promises.{Base, Call, ComesFor, Devices, HoldsEntries, Invariant, IsTextOf, Mail, State},
  Sessions.MboxMail,
}

-- what is said of a visit's server: the maildrop that it showed, and the ids that its QUIT removed from it
pub record Server : Type 0 where
  pub maildrop : List Message
  pub vanished : List (List ℕ)

-- a visit to such a server that left these devices, as a call
abbrev pub visit_call : {W S F : Type 0} → Settings → Visit W → Report → Visit W → Server → Devices S F → Call W S F
visit_call settings old report new server after = record {
  settings = settings;
  now = old.now;
  report = report;
  wire = old.wire;
  wire' = new.wire;
  after = after;
  maildrop = server.maildrop;
  vanished = server.vanished;
}

-- these are the calls that the visits were, in order, each made over what the one before left, and the last left these
-- devices
abbrev pub AreCalls : {W D F S : Type 0} → WireGhosts W → DiskGhosts D → FileGhosts F → (S → Store D F) → Settings
    → List (Visit W) → List Report → List (Visit W) → List Server → Devices S F → Devices S F → List (Call W S F)
    → Type 0
AreCalls link disk file In settings [] [] [] [] first last [] = last ≡ first
AreCalls link disk file In settings (old ∷ olds) (report ∷ reports) (new ∷ news) (server ∷ servers) first last
    (call ∷ calls) = (call ≡ visit_call settings old report new server call.after)
    × WasMade link disk file call.now (account_over In call.settings first) call.wire call.report
    (account_over In call.settings call.after) call.wire'
    × AreCalls link disk file In settings olds reports news servers call.after last calls
AreCalls link disk file In settings olds reports news servers first last calls = ⊥

-- visits of an account whose store is of this kind are calls, whatever is said of their servers
abbrev pub CallsOf : {W D F S : Type 0} → WireGhosts W → DiskGhosts D → FileGhosts F → (S → Store D F) → Type 0
CallsOf {W} {D} {F} {S} link disk file In = (settings : Settings) (first : Devices S F) (olds : List (Visit W))
    (reports : List Report) (news : List (Visit W)) (servers : List Server) (account : Holding D F)
    → AreMade link disk file olds (account_over In settings first) reports news account
    → length servers ≡ length olds
    → (last : Devices S F) × (account ≡ account_over In settings last) × (calls : List (Call W S F))
    × AreCalls link disk file In settings olds reports news servers first last calls

-- a law: visits are calls, with a Maildir and with an mboxrd file
pub record VisitsAreCalls {W D F : Type 0} (link : WireGhosts W) (disk : DiskGhosts D) (file : FileGhosts F)
    : Type 0 where
  pub maildir : CallsOf link disk file InMaildir
  pub mbox : CallsOf link disk file InMbox

-- each was a call as the statement asks, over what the one before left
abbrev pub AreServed : {W D F S : Type 0} → WireGhosts W → DiskGhosts D → FileGhosts F → (S → Store D F)
    → (S → Type 0) → (List ℕ → List ℕ → Type 0) → Devices S F → List (Call W S F) → Type 0
AreServed link disk file In is_sound Comes first [] = Unit {0}
AreServed link disk file In is_sound Comes first (call ∷ calls) = IsCall link disk file In is_sound Comes first call
    × AreServed link disk file In is_sound Comes call.after calls

-- a law: if their servers were honest and the devices did what their traits say, visits from a state with the invariant
-- leave one; and with an mboxrd file, if they read only what is new, the file holds entries after them if it did before
pub record VisitsKeepStates {W D F : Type 0} (link : WireGhosts W) (disk : DiskGhosts D) (file : FileGhosts F)
    : Type 0 where
  pub maildir : (settings : Settings) (first last : Devices D F) (olds : List (Visit W)) (reports : List Report)
      (news : List (Visit W)) (servers : List Server) (calls : List (Call W D F)) (mail : Mail) (state : State)
      → digits_of settings ≡ mail.account
      → AreCalls link disk file InMaildir settings olds reports news servers first last calls
      → AreServed link disk file InMaildir disk.sound (ComesFor mail) first calls
      → Shows disk file first state.account → Invariant mail state
      → (after : State) × Shows disk file last after.account × Invariant mail after
  pub mbox : (settings : Settings) (first last : Devices F F) (olds : List (Visit W)) (reports : List Report)
      (news : List (Visit W)) (servers : List Server) (calls : List (Call W F F)) (base : Base) (done : List Message)
      (account : MboxMail) → settings.read_all ≡ false
      → AreCalls link disk file InMbox settings olds reports news servers first last calls
      → AreServed link disk file InMbox file.sound (IsTextOf base) first calls
      → ShowsMbox file first account → HoldsEntries base done account
      → (more : List Message) × (after : MboxMail) × ShowsMbox file last after × HoldsEntries base (done ++ more) after
