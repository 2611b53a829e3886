-- What a session has to do, task by task, and what each task brings once it is done.
use Rattle.std.specs.{
  Prelude.{◌≡◌, ◌≢◌, ℕ, Bool, true, false, List, [], ◌∷◌, ◌++◌, length, map},
  List.{flat_map, AllByRecursion, AllZip},
}
use Rattle.mail_terms.specs.{UniqueId.IsLegalId, Listing.Item}
use Rattle.fetch_rules.specs.{Plan.fetches, declared.plans.Step.Step}
use Rattle.mail_store.specs.{Maildir.{Maildir, File}, FileName.{mail_file, is_held}}
use Rattle.pop3_client.specs.{Turns.{Turn, IsGood, retr, dele}, Texts.body_text}
use Rattle.pop3_wire.specs.Reading.{WholeReply}
use Rattle.session_parts.specs.declared.report.ReportLine.{ReportLine, TheVariants.{Delivered, Held, Skipped, Deleted}}

-- a turn that stores nothing; a message passed over, of this number and size; a message to fetch and store under its
-- id; one to fetch that is held already; one to delete
pub data Task : Type 0 where
  says : Turn → Task
  skips : ℕ → ℕ → Task
  stores : ℕ → List ℕ → Task
  rereads : ℕ → List ℕ → Task
  deletes : ℕ → Task

-- the turn that a task takes, if it takes one
abbrev pub turns_in : Task → List Turn
turns_in (says turn) = turn ∷ []
turns_in (skips number size) = []
turns_in (stores number uid) = retr number ∷ []
turns_in (rereads number uid) = retr number ∷ []
turns_in (deletes number) = dele number ∷ []

-- the turns that tasks will take, in order
abbrev pub turns_ahead : List Task → List Turn
turns_ahead tasks = flat_map turns_in tasks

-- the id that a task marks
abbrev pub ids_in : Task → List (List ℕ)
ids_in (stores number uid) = uid ∷ []
ids_in _ = []

-- the ids that tasks will mark, in order
abbrev pub ids_ahead : List Task → List (List ℕ)
ids_ahead tasks = flat_map ids_in tasks

-- each of these ids is legal, isn't held yet, and occurs once
abbrev pub AreFresh : List ℕ → Maildir → List (List ℕ) → Type 0
AreFresh account maildir [] = Unit {0}
AreFresh account maildir (uid ∷ uids) = IsLegalId uid × (is_held account maildir uid ≡ false)
    × AllByRecursion (λ (other : List ℕ). other ≢ uid) uids × AreFresh account maildir uids

-- what is planned for a message of this id and size, which is held or not
abbrev pub fetching : Bool → Bool → ℕ → List ℕ → ℕ → List Task
fetching true true number uid size = rereads number uid ∷ []
fetching true false number uid size = stores number uid ∷ []
fetching false held number uid size = skips number size ∷ []

abbrev pub deleting : Bool → ℕ → List Task
deleting true number = deletes number ∷ []
deleting false number = []

abbrev pub tasks_in : Step → Item → Bool → List Task
tasks_in step item held = fetching (fetches step) held step.number item.uid item.size
    ++ deleting step.delete step.number

-- the tasks of all steps, in order; the i-th step is for the i-th message
abbrev pub tasks_planned : List Step → List Item → List Bool → List Task
tasks_planned [] items held = []
tasks_planned (s ∷ ss) [] held = []
tasks_planned (s ∷ ss) (i ∷ is) [] = []
tasks_planned (s ∷ ss) (i ∷ is) (h ∷ hs) = tasks_in s i h ++ tasks_planned ss is hs

-- a task that is done, with the reply to its turn, if it takes one
pub record Done : Type 0 where
  pub task : Task
  pub replies : List WholeReply

-- its turn, if it takes one, was answered well
abbrev pub IsAnswered : Done → Type 0
IsAnswered done = AllZip IsGood (turns_in done.task) done.replies

abbrev pub task_in : Done → Task
task_in done = done.task

abbrev pub tasks_of : List Done → List Task
tasks_of dones = map task_in dones

abbrev pub turns_of : List Done → List Turn
turns_of dones = flat_map (λ (d : Done). turns_in d.task) dones

abbrev pub replies_of : List Done → List WholeReply
replies_of dones = flat_map (λ (d : Done). d.replies) dones

-- the ids that were marked
abbrev pub marked_ids : List Done → List (List ℕ)
marked_ids dones = flat_map (λ (d : Done). ids_in d.task) dones

-- the file of a text stored for the account
abbrev pub file_from : List ℕ → List ℕ → WholeReply → File
file_from account uid reply = mail_file account uid (body_text reply.body)

-- the files that a task brought
abbrev pub files_in : List ℕ → Task → List WholeReply → List File
files_in account (stores number uid) replies = map (file_from account uid) replies
files_in account _ replies = []

abbrev pub files_of : List ℕ → List Done → List File
files_of account dones = flat_map (λ (d : Done). files_in account d.task d.replies) dones

-- the texts that a task stored
abbrev pub texts_in : Task → List WholeReply → List (List ℕ)
texts_in (stores number uid) replies = map (λ (reply : WholeReply). body_text reply.body) replies
texts_in _ replies = []

abbrev pub done_texts : List Done → List (List ℕ)
done_texts dones = flat_map (λ (d : Done). texts_in d.task d.replies) dones

-- the line of a text that was stored, and of one that was held
abbrev pub delivered : ℕ → WholeReply → ReportLine
delivered number reply = Delivered number (length (body_text reply.body))

abbrev pub held : ℕ → WholeReply → ReportLine
held number reply = Held number (length (body_text reply.body))

-- the lines that a task notes
abbrev pub lines_in : Task → List WholeReply → List ReportLine
lines_in (skips number size) replies = Skipped number size ∷ []
lines_in (stores number uid) replies = map (delivered number) replies
lines_in (rereads number uid) replies = map (held number) replies
lines_in (deletes number) replies = Deleted number ∷ []
lines_in (says turn) replies = []

abbrev pub report_lines : List Done → List ReportLine
report_lines dones = flat_map (λ (d : Done). lines_in d.task d.replies) dones
