-- The commands of a session's plan, and which of them are sent.
-- The conversation of one session: the turns that were completed, the one that was begun after them, and the tail.
use Rattle.std.specs.{
  Prelude.{◌≡◌, ◌≢◌, ◌⊎◌, ℕ, Bool, List, [], ◌∷◌, ◌++◌, if◌then◌else◌, true, false, map, None, Some},
  List.{flat_map, count_by, AllZip},
  String.string_bytes,
}
use Rattle.pop3_wire.specs.{
  declared.command.Command.{Command, TheVariants.{User, Pass, Stat, UidlAll, ListAll, Retr, Dele, Rset, Quit}},
  Honest.HasSent,
  Link.Link,
  Reading.{WholeReply, reply_bytes},
}
use Rattle.fetch_rules.specs.{declared.plans.Step.Step, Plan.{fetches, planned}}
use Rattle.pop3_client.specs.Turns.{Turn, asking, greeting, retr, IsGood}
use Rattle.mail_terms.specs.Listing.{Item}
use Rattle.fetch_record.specs.Record.{Row, merged}
use Rattle.mail_store.specs.{FileName.is_odd, Held.flags_of}
use Rattle.session_parts.specs.{
  Record.KeepsRows,
  declared.fault.{Fault.TheVariants.StoreRefused, Why.TheVariants.Refused},
  declared.report.{Outcome.{Outcome, TheVariants.{Ended, Cut}}, Report.Report},
  Opening.opening,
  Session.{AccountFiles, Session, MboxAccountFiles, MboxSession},
}
use Rattle.rc_file.specs.{Settings.IsValid, declared.settings.Settings.Settings}
use Rattle.fetch_runs.specs.Sessions.{IsListed, tail_behind}

abbrev pub asked_if : Bool → Command → List Command
asked_if yes' command = if yes' then command ∷ [] else []

-- RETR before DELE
abbrev pub step_commands : Step → List Command
step_commands step = asked_if (fetches step) (Retr step.number) ++ asked_if step.delete (Dele step.number)

abbrev pub plan_commands : List ℕ → List ℕ → List Step → List Command
plan_commands name word steps = User name ∷ Pass word ∷ Stat ∷ UidlAll ∷ ListAll ∷
    (flat_map step_commands steps ++ Quit ∷ [])

-- what is sent after a fault: nothing, QUIT, RSET, or both
abbrev pub IsTail : List Command → Type 0
IsTail tail = (tail ≡ []) ⊎ (tail ≡ Quit ∷ []) ⊎ (tail ≡ Rset ∷ []) ⊎ (tail ≡ Rset ∷ Quit ∷ [])

-- a prefix of the plan, and a tail
pub record IsFrontOfPlan (name word : List ℕ) (steps : List Step) (commands : List Command) : Type 0 where
  pub front : List Command
  pub behind : List Command
  pub tail : List Command
  pub plan : plan_commands name word steps ≡ front ++ behind
  pub is_tail : IsTail tail
  pub sent : commands ≡ front ++ tail

-- what was sent after the completed turns: a prefix of the octets of the turn that was begun, if one was; or
-- that turn whole, and a prefix of the tail's octets
abbrev pub SentBehind : List Turn → List Turn → List ℕ → Type 0
SentBehind begun tail sent = ((later : List ℕ) × (asking begun ≡ sent ++ later))
    ⊎ ((part later : List ℕ) × (asking tail ≡ part ++ later) × (sent ≡ asking begun ++ part))

-- what a link gained: these turns were sent, and each was answered by its reply, whole and good; what was got
-- begins with these replies; after them perhaps one turn was begun, and then the tail
pub record Conversation (done : List Turn) (replies : List WholeReply) (begun tail : List Turn)
    (sent got : List ℕ) : Type 0 where
  pub good : AllZip IsGood done replies
  pub rest : List ℕ
  pub heard : got ≡ flat_map reply_bytes replies ++ rest
  pub behind : List ℕ
  pub said : sent ≡ asking done ++ behind
  pub sent_behind : SentBehind begun tail behind

-- the conversation of a plan: its first turns were completed, at most the next one was begun, and then the tail
pub record Converses (plan tail : List Turn) (sent got : List ℕ) : Type 0 where
  pub done : List Turn
  pub begun : List Turn
  pub later : List Turn
  pub replies : List WholeReply
  pub split : plan ≡ done ++ (begun ++ later)
  pub one : (begun ≡ []) ⊎ ((turn : Turn) × (begun ≡ turn ∷ []))
  pub is : Conversation done replies begun tail sent got

-- the turns of a plan of these steps: the greeting, and each of the plan's commands
abbrev pub plan_turns : List ℕ → List ℕ → List Step → List Turn
plan_turns name word steps = greeting ∷ map Some (plan_commands name word steps)

abbrev pub is_retrieval : Turn → Bool
is_retrieval None = false
is_retrieval (Some (Retr number)) = true
is_retrieval (Some _) = false

-- how many texts these turns ask for
abbrev pub retrieved_by : List Turn → ℕ
retrieved_by turns = count_by is_retrieval turns

-- the turns ask for as many texts as are counted; or the last of them asks for one more, if the store refused
-- that text, and then only the tail is begun
abbrev pub CountsTexts : Outcome → List Turn → List Turn → ℕ → Type 0
CountsTexts outcome done begun count = (retrieved_by done ≡ count)
    ⊎ ((outcome ≡ Cut (StoreRefused Refused))
    × ((front : List Turn) × (number : ℕ) × (done ≡ front ++ retr number ∷ []) × (retrieved_by front ≡ count)
    × (begun ≡ [])))

-- these octets are those of the first commands of a plan of these steps and of a tail, and perhaps a beginning of one
-- more's line
pub record FollowsPlan (settings : Settings) (steps : List Step) (sent : List ℕ) : Type 0 where
  pub commands : List Command
  pub asked : HasSent commands sent
  pub front : IsFrontOfPlan (string_bytes settings.username) (string_bytes settings.password) steps commands

-- a session that was cut and didn't get past its opening
pub record EndsInOpening (settings : Settings) (report : Report) (sent got : List ℕ) : Type 0 where
  pub said : Converses (opening (string_bytes settings.username) (string_bytes settings.password))
      (tail_behind report.outcome) sent got
  pub cut : report.outcome ≢ Ended
  pub follows : FollowsPlan settings [] sent

-- a session whose listing was joined followed the plan for that listing and for the rows that the record's file stood
-- for, with the listing and what was found held merged into them; or it didn't come to a plan, and began only the tail
-- after the opening
pub record SpeaksByPlan (settings : Settings) (account : List ℕ) (now : ℕ) (before : AccountFiles) (report : Report)
    (sent got : List ℕ) : Type 0 where
  pub items : List Item
  pub rows : List Row
  pub said : Converses
      (plan_turns (string_bytes settings.username) (string_bytes settings.password)
      (planned settings (is_odd account before.maildir) rows items now))
      (tail_behind report.outcome) sent got
  pub found : ((was : List Row) × KeepsRows before.file.content was
      × (rows ≡ merged was items (flags_of account before.maildir items) now))
      ⊎ ((said.done ≡ opening (string_bytes settings.username) (string_bytes settings.password)) × (said.begun ≡ []))
  pub follows : FollowsPlan settings (planned settings (is_odd account before.maildir) rows items now) sent
  pub listed : (hello user pass stat uidl list : WholeReply) × (more : List WholeReply)
      × (said.replies ≡ hello ∷ user ∷ pass ∷ stat ∷ uidl ∷ list ∷ more) × IsListed stat uidl list items
  pub counts : CountsTexts report.outcome said.done said.begun report.retrieved
  pub ended : report.outcome ≡ Ended → (said.begun ≡ []) × (said.later ≡ [])
      × HasSent (plan_commands (string_bytes settings.username) (string_bytes settings.password)
      (planned settings (is_odd account before.maildir) rows items now)) sent

-- a law: what the link gained by a session is one conversation, of the opening alone if it didn't get further
abbrev pub SessionsAreConversations : Type 0
SessionsAreConversations = (settings : Settings) (account : List ℕ) (now : ℕ) (link : Link) (before : AccountFiles)
    (report : Report) (link' : Link) (after : AccountFiles)
    → IsValid settings → Session settings account now link before report link' after
    → (sent got : List ℕ) × (link'.sent ≡ link.sent ++ sent) × (link'.got ≡ link.got ++ got)
    × (EndsInOpening settings report sent got ⊎ SpeaksByPlan settings account now before report sent got)

-- a law: with an mboxrd file, what was sent in a session follows a plan
abbrev pub MboxSessionsFollowPlans : Type 0
MboxSessionsFollowPlans = (settings : Settings) (now : ℕ) (link : Link) (before : MboxAccountFiles) (report : Report)
    (link' : Link) (after : MboxAccountFiles)
    → IsValid settings → MboxSession settings now link before report link' after
    → (sent : List ℕ) × (link'.sent ≡ link.sent ++ sent) × (steps : List Step) × FollowsPlan settings steps sent
