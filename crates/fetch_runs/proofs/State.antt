-- What a session leaves of an account with a Maildir, for each way that its tasks can take.
use Rattle.std.proofs.{
  Common.{◌≡◌, ℕ, false, List, ◌∷◌, ◌++◌, map, Option, refl, sym, ap, append_assoc, arith, ◌∙◌, ⊎_elim, ◌⊎◌, inl, inr, None, Result, Ok},
  Common.{Err, []},
  lemmas.List.{append-nil, map-append, Concat.flat_map-append},
}
use Rattle.mail_terms.specs.Listing.{Item}
use Rattle.rc_file.specs.declared.settings.Settings.{Settings}
use Rattle.fetch_record.specs.Record.{Row, marked, none_open}
use Rattle.mail_store.specs.{Maildir.{Maildir, File}, FileName.stem_of, FlatFile.Stored}
use Rattle.session_parts.{
  specs.{Task.{Task, stores, Done, files_in, files_of, file_from}, Target.{AsFiles, in_maildir, Target, Stores}, Record.KeepsRows},
  specs.declared.fault.{Cut.Cut, Fault.TheVariants.StoreRefused},
  specs.declared.report.{Outcome.TheVariants.Cut as WasCut, ReportLine.ReportLine, Report.Report},
  specs.{Store.RefusesText, CarryingOut.{Unprepared, Carried, Carries}},
  specs.Scene.{Scene, scene, Went, Fell, NoFile, FileNotSaved, Stops, Does},
  specs.Session.{outcome_of, Keeping, Noted, Proceeds, Session, SessionIn, AccountFiles, account_files, keeping, keeps_files},
  proofs.TakenLemmas.unready_same,
}
use Rattle.pop3_wire.specs.{Link.Link, Place.at, Reading.WholeReply, declared.command.Command.Command}
use Rattle.fetch_runs.{
  specs.{Sessions.{StopsAtList, StoresTexts as Did}, Below.Below, Accounts.without_flags, Steps.holds},
  proofs.Turns.{deleted_by, text_found, Course, course, SessionCourse, Idle, Deals, course_carried, course_carries, course_of, stored_done},
  proofs.Turns.{course_proceeded, found_of, spare_in, course_stopped, course_does, begun_of, effect_of},
  proofs.Lists.same_kept_rows,
  proofs.Tasks.{tasks_ahead, Inputs, rows_on, count, rows_after, records_part, files_part, is_ended, Starts, Tally, tally_begun, mid_rows},
  proofs.Tasks.{tally_number, tally_none, mid_keeps, tally_all, tally_no_line, tally_spare, tally_old, tally_new, full_rows},
}
use mathlib.Core.Logic.{⊎_map}
use Rattle.session_parts.specs.declared.fault.Why.TheVariants as why

-- ---- of a session

-- the account is as it was, or as a course leads to
abbrev pub CourseLeads : (Course → Type 0) → Result (Unit {0}) Cut → Keeping → Keeping → List ReportLine → SessionCourse → Type 0
CourseLeads Leads result before after lines Idle = (is_ended result ≡ false) × (after ≡ before) × (lines ≡ [])
CourseLeads Leads _ _ _ _ (Deals c) = Leads c

-- what holds if nothing was planned, and if what was planned was carried out
module _ {settings : Settings} {target : Target} {now : ℕ} {link link' : Link} {before after : Keeping} {report : Report}
    (session : SessionIn settings target now link before report link' after) (Leads : Result (Unit {0}) Cut → Course
    → Stores → Stored → Type 0)
    (unprepared : (items : List Item) (place : _) (cut : Cut) (new : Scene)
    → Unprepared target items now place before.store before.file [] cut new
    → Leads (Err cut) (course items [] [] []) new.store new.file)
    (carried : (items : List Item) (place : _) (result : Result (Unit {0}) Cut) (new : Scene) (skipped : _)
    (is : Carried settings target items now place before.store before.file [] result new skipped)
    → Leads result (course_carried is) new.store new.file) where
  carries_lead : (items : List Item) (place : _) (result : Result (Unit {0}) Cut)
      (is : Carries settings target items now place before.store before.file [] result session.mid after.store after.file
      session.notes.lines session.notes.skipped)
      → Leads result (course_carries settings target items now place before.store before.file [] result session.mid
      after.store after.file session.notes.lines session.notes.skipped is) after.store after.file
  carries_lead _ _ (Ok _) is = carried _ _ _ _ _ is.1
  carries_lead items place (Err cut) (rows, inl (_, is)) =
      unprepared items place cut (scene session.mid after.store after.file rows session.notes.lines) is
  carries_lead _ _ (Err _) (_, inr is) = carried _ _ _ _ _ is

  pub by_course : CourseLeads (λ (c : Course). Leads session.result c after.store after.file) session.result before after
      session.notes.lines (course_of session)
  by_course = by session.result session.proceeds
    where
      by : (result : Result (Unit {0}) Cut) (is : Proceeds settings target now (at link []) before result session.mid after session.notes)
          → CourseLeads (λ (c : Course). Leads result c after.store after.file) result before after session.notes.lines
          (course_proceeded settings target now (at link []) before result session.mid after session.notes is)
      by (Ok _) dealt = carries_lead dealt.items dealt.mid _ dealt.carries
      by (Err _) (inl stopped) = (refl, stopped.same, ap (λ (n : Noted). n.lines) stopped.nothing)
      by (Err _) (inr (inl wanting)) = (refl, wanting.same, ap (λ (n : Noted). n.lines) wanting.nothing)
      by (Err _) (inr (inr dealt)) = carries_lead dealt.items dealt.mid _ dealt.carries

-- ---- with a Maildir

-- the store refused a text
abbrev pub RefusedIn : Result (Unit {0}) Cut → Type 0
RefusedIn result = outcome_of result ≡ WasCut (StoreRefused why.Refused)

-- what the plan for a listing is made from
abbrev pub inputs : Settings → List ℕ → ℕ → Maildir → List Row → List Item → Inputs
inputs settings account now maildir rows items = record {
  settings = settings;
  account = account;
  items = items;
  now = now;
  maildir = maildir;
  rows = rows;
}

-- only the files of these tasks were added
abbrev AddsFiles : List ℕ → Maildir → List Done → Maildir → Type 0
AddsFiles account maildir dones maildir' = without_flags maildir'.files ≡ without_flags maildir.files ++ files_of account dones

-- of files that are durable only names and bytes are known
made_files : (account : List ℕ) (dones : List Done) → without_flags (files_of account dones) ≡ files_of account dones
made_files _ [] = refl
made_files account (d ∷ dones) = map-append _ (files_in account d.task d.replies) (files_of account dones)
    ∙ rw (by, made_files account dones) refl
  where
    by : (task : Task) (replies : List WholeReply) → without_flags (files_in account task replies) ≡ files_in account task replies
    by (stores _ _) [] = refl
    by (stores number uid) (reply ∷ replies) = ap (λ (fs : List File). file_from account uid reply ∷ fs) (by (stores number _) replies)
    by _ _ = refl

pub came_too : (old new added : List File) → new ≡ old ++ added → without_flags new ≡ without_flags old ++ without_flags added
came_too old _ added came = ap without_flags came ∙ map-append _ old added

-- the account that a session left, and what it found; the record is the old one only if no task was begun
pub record LeavesAccount (settings : Settings) (account : List ℕ) (now : ℕ) (maildir : Maildir) (rows : List Row)
    (result : Result (Unit {0}) Cut) (c : Course) (maildir' : Maildir) (content' : Option (List ℕ)) : Type 0 where
  pub full : List Done
  pub noted : List Done
  pub tally : Tally (inputs settings account now maildir rows c.items) result c full noted (RefusedIn result)
  pub files : AddsFiles account maildir full maildir'
  pub rows' : List Row
  pub keeps : KeepsRows content' rows'
  pub recorded : (rows' ≡ rows_after (inputs settings account now maildir rows c.items) noted)
      ⊎ ((rows' ≡ rows) × (found_of c ≡ []) × (begun_of c ≡ []) × (is_ended result ≡ false))

-- what the session stored, and the report counts
abbrev pub figures : {settings : Settings} {account : List ℕ} {now : ℕ} {maildir : Maildir} {rows : List Row}
    {result : Result (Unit {0}) Cut} {c : Course} {maildir' : Maildir} {content' : Option (List ℕ)}
    (l : LeavesAccount settings account now maildir rows result c maildir' content') (report : Report) (commands : List Command)
    (part : List ℕ) → report.retrieved ≡ count c.taken → report.outcome ≡ outcome_of result
    → (begun_of c ≡ [] → StopsAtList report.outcome commands part)
    → Did settings account (holds rows maildir) (effect_of now (is_ended result) c) (holds l.rows' maildir') report commands part
figures {c = c} l report commands part retrieved outcome stops = record {
  stored = count l.full;
  recorded = count l.noted;
  number = rw (retrieved, outcome, tally_number l.tally) l.tally.number;
  kept = rw (retrieved, tally_number l.tally) (⊎_map (λ same. sym same) (λ less. (sym less.0, refl)) l.tally.number);
  marks = rw (retrieved, outcome) l.tally.mark;
  came = rw (l.files, l.tally.found, files_part l.tally.whole) refl;
  rows = ⊎_elim (λ is. inr (is ∙ records_part l.tally.part))
      (λ none. inl (none.0, ap (map text_found) none.1, ap (deleted_by c.items) none.2, none.3, stops none.2)) l.recorded;
  begun = ⊎_elim (λ is. rw is (tally_begun l.tally)) (λ none. rw none.2 tt) l.recorded;
  ended = λ is. retrieved ∙ (l.tally.ends is).0;
}

module _ (settings : Settings) (account : List ℕ) (now : ℕ) (maildir : Maildir) (rows : List Row) where
  abbrev p : List Item → Inputs
  p items = inputs settings account now maildir rows items

  abbrev Leading : Result (Unit {0}) Cut → Course → Maildir → Option (List ℕ) → Type 0
  Leading result c maildir' content' = LeavesAccount settings account now maildir rows result c maildir' content'

  -- ---- of tasks

  module _ {items : List Item} where
    lead : {result : Result (Unit {0}) Cut} {taken full noted : List Done} {spare : List WholeReply} {under : List Task}
        → Tally (p items) result (course items taken spare under) full noted (RefusedIn result)
        → {maildir' : Maildir} {content' : Option (List ℕ)} → AddsFiles account maildir full maildir'
        → KeepsRows content' (rows_after (p items) noted) → Leading result (course items taken spare under) maildir' content'
    lead t files keeps = record {
      full = _;
      noted = _;
      tally = t;
      files = files;
      rows' = _;
      keeps = keeps;
      recorded = inl refl;
    }

    module _ {tasks : List Task} {old : Scene} (starts : Starts (p items) tasks old) (same_maildir : old.store.maildir ≡ maildir) where
      -- what there was after the tasks that were done
      mid_files : {dones : List Done} {mid : Scene} → Went (AsFiles account) dones old mid
          → AddsFiles account maildir dones mid.store.maildir
      mid_files {dones} went = came_too _ _ _ (rw (← same_maildir) went.stored.came)
          ∙ ap (λ (fs : List File). without_flags maildir.files ++ fs) (made_files account dones)

      module _ {cut : Cut} {new : Scene} (fell : Fell (AsFiles account) tasks old cut new) where
        abbrev Stopped : Course → Type 0
        Stopped c = Leading (Err cut) c new.store.maildir new.file.content

        still : new.file ≡ fell.mid.file → KeepsRows new.file.content (rows_after (p items) fell.dones)
        still file = rw file (None, mid_keeps starts fell.went)

        -- the next task left the files as they were
        bare : new.store.maildir.files ≡ fell.mid.store.maildir.files → new.file ≡ fell.mid.file
            → Stopped (course items fell.dones [] (fell.next ∷ []))
        bare same file = lead (tally_no_line starts fell) (ap without_flags same ∙ mid_files fell.went) (still file)

        -- the file of the next task's text is there
        files : (number : ℕ) (uid : List ℕ) (reply : WholeReply)
            → without_flags new.store.maildir.files ≡ without_flags fell.mid.store.maildir.files ++ file_from account uid reply ∷ []
            → AddsFiles account maildir (fell.dones ++ stored_done number uid reply ∷ []) new.store.maildir
        files _ _ _ came = simp (came, mid_files fell.went, append_assoc, flat_map-append)

        -- and the record is one of two
        unsaved : (u : FileNotSaved account fell.next fell.mid new cut)
            → Stopped (course items (fell.dones ++ stored_done u.number u.uid u.reply ∷ []) [] [])
        unsaved u =
            let there : AddsFiles account maildir (fell.dones ++ stored_done u.number u.uid u.reply ∷ []) new.store.maildir = files _ _ _
            (came_too _ _ _ u.stored.came) in
            elim (starts.laws.unsaved fell.mid.file (none_open fell.mid.rows) (none_open (marked fell.mid.rows u.uid))
            cut.fault new.file u.saves (fell.went.saved starts.steady)) [
              | inl was ↦
                  lead (tally_old starts fell u.is u.talked (let saves = u.saves in grind (arith, saves))) there
                  (None, rw (← mid_rows starts fell.went) was)
              | inr more ↦ lead (tally_new starts fell u.is u.talked) there (None, rw (← full_rows starts fell u.is u.talked) more)
            ]

        -- the store refused a text
        not_stored : (refused : NoFile account fell.next fell.mid new cut)
            → (refuses : RefusesText fell.mid.store.maildir (stem_of account refused.uid) refused.rest refused.text
            cut.fault new.store.maildir) → Stopped (course items fell.dones (spare_in refused refuses) (fell.next ∷ []))
        not_stored refused (inl missing) = bare (ap (λ m. m.files) missing.2) refused.file
        not_stored refused (inr (_, inl same)) = bare (ap (λ m. m.files) same) refused.file
        not_stored refused (inr (is, inr (done, (_, there)))) =
            let whole = refused.whole done in
            lead (tally_spare starts fell refused.is whole.1 (ap WasCut is)) (files _ _ _
            (rw (there, whole.2) (map-append _ fell.mid.store.maildir.files _))) (still refused.file)

        stopped : (stops : Stops (AsFiles account) fell.next fell.mid cut new)
            → Stopped (course_stopped (AsFiles account) items fell.dones fell.next fell.mid new cut stops)
        stopped (inl broken) = bare (ap (λ (s : Stores). s.maildir.files) broken.store) broken.file
        stopped (inr (inl refused)) = not_stored refused refused.refuses
        stopped (inr (inr refused)) = unsaved refused

      does_leads : (result : Result (Unit {0}) Cut) (new : Scene) (does : Does (AsFiles account) tasks old result new)
          → Leading result (course_does (AsFiles account) items tasks old new result does) new.store.maildir new.file.content
      does_leads (Ok _) _ all = lead (tally_all starts all) (mid_files all.went) (None, mid_keeps starts all.went)
      does_leads (Err _) _ fell = stopped fell fell.stops

  -- ---- of a session

  pub course_leads : Below → {link link' : Link} {file : Stored} {report : Report} {after : AccountFiles} → KeepsRows file.content rows
      → (session : Session settings account now link (account_files maildir file) report link' after)
      → CourseLeads (λ (c : Course). Leading session.result c after.maildir after.file.content) session.result
      (keeping (in_maildir maildir) file) (keeps_files after) session.notes.lines (course_of session)
  course_leads laws {file = file} keeps session = by_course session
      (λ r c store file'. Leading r c store.maildir file'.content) (λ items place cut new is.
      let none : Tally (p items) (Err cut) (course items [] [] []) [] [] (RefusedIn (Err cut)) = tally_none laws in
      let same : AddsFiles account maildir [] new.store.maildir =
      ap without_flags (unready_same cut.fault maildir file new.store.maildir new.file is.unready.cause)
      ∙ sym (append-nil (without_flags maildir.files)) in
      -- the record is as it was
      let stays : KeepsRows new.file.content rows → Leading (Err cut) (course items [] [] []) new.store.maildir new.file.content =
      λ keeps'. record {
        full = [];
        noted = [];
        tally = none;
        files = same;
        rows' = rows;
        keeps = keeps';
        recorded = inr (refl, refl, refl, refl);
      } in
      elim is.unready.content [
        | inl content ↦ stays (rw content keeps)
        | inr m ↦
            let were = same_kept_rows laws.one file.content m.was.rows rows (m.was.intent, m.stood) keeps in
            ⊎_elim (λ left. stays (m.was.intent, rw (← were) left)) (λ merges. lead none same (None, rw (← were) merges)) m.stands
      ]) (λ items place result new skipped is.
      let rows_are : is.mid.rows ≡ rows_on (p items) =
      rw (
        is.prepared.rows,
        same_kept_rows laws.one file.content is.prepared.was.rows rows (is.prepared.was.intent, is.prepared.stood) keeps,
      ) refl in
      let starts : Starts (p items) (tasks_ahead settings account items now maildir is.mid.rows) is.mid = record {
        laws = laws;
        tasks_are = ap (tasks_ahead settings account items now maildir) rows_are;
        rows = rows_are;
        steady = is.prepared.saved;
      } in
      does_leads starts (ap (λ (s : Stores). s.maildir) is.prepared.settles) result new is.does)
