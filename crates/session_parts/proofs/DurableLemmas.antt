-- What a session leaves of a Maildir is durable.
use Rattle.std.{
  proofs.Common.{◌≡◌, ◌⊎◌, inl, inr, ℕ, true, false, List, [], ◌∷◌, ◌++◌, ◌&&◌, None, Result, Ok, Err, Contains, arith, refl, sym, ap, ◌∙◌},
  proofs.Common.{subst, ⊎_elim, bytes_eq, length},
  proofs.lemmas.{Bool.{and_parts, cases_Bool, or_cases}, List.Elements.{Contains-append_left, Contains-append_right}},
  proofs.lemmas.Slice.Eq.bytes_eq-Decides,
  specs.List.AllByRecursion,
}
use Rattle.fetch_record.specs.{Record.{Row, has_row, is_delivered, marked, marked_all, merged, none_open}, RecordGrowth.OneRecord}
use Rattle.mail_store.specs.{
  FileName.{IsAccountText, NamesAreBases, NamesHaveStems, is_held, mail_file, names_id, stem, stem_of},
  FlatFile.Stored,
  Held.{FoundDurable, HasDurable, flags_of},
  Maildir.{File, IsDurableFile, Maildir},
}
use Rattle.mail_terms.specs.Listing.{Item, is_flagged}
use Rattle.pop3_wire.specs.{Place.Place, Reading.WholeReply}
use Rattle.rc_file.specs.declared.settings.Settings.{Settings}
use Rattle.session_parts.{
  specs.{declared.{fault.Cut.Cut, report.{ReportLine.ReportLine, Skips.Skips}}, Record.KeepsRows, Laws.SessionsAreDurable},
  specs.{CarryingOut.Carried, Readiness.{IsMergedAtMost, are_undelivered}, Scene.{Does, Scene, Stops, Went}},
  specs.{Session.{AccountFiles, Keeping, Noted, Proceeds, keeps_files}, Target.{AsFiles, Stores, in_maildir}},
  specs.Task.{Done, IsAnswered, Task, file_from, files_in, files_of, ids_in, marked_ids, stores},
  proofs.{ReadyLemmas.{HeldIsDelivered, MarkedIsDelivered}, SceneLemmas.{marked_on, steady_keeps, unsaved_keeps}},
  proofs.TakenLemmas.{FilesCame, proceeds_came, stops_came, unready_same},
}
use mathlib.Core.Logic.{⊎_map}

-- the laws that are used
pub record DurableLaws : Type 0 where
  pub one : OneRecord
  pub marks : MarkedIsDelivered
  pub flagged : HeldIsDelivered
  pub stems : NamesHaveStems
  pub bases : NamesAreBases

module _ (laws : DurableLaws) (account : List ℕ) (text : IsAccountText account) (id : List ℕ) where
  -- the file of a text is under its id's name
  its_name : (uid bytes : List ℕ) → names_id account uid (mail_file account uid bytes).name ≡ true
  its_name uid bytes = (bytes_eq-Decides (stem_of account uid) _).1
      (sym (ap stem (laws.bases account uid (length bytes) text) ∙ laws.stems account uid (length bytes) text))

  -- a file that the message has among these
  abbrev HasAmong : List File → Type 0
  HasAmong files = (f : File) × Contains files f × (names_id account id f.name ≡ true) × IsDurableFile f

  -- these rows show it as delivered, or it has one
  abbrev Has : List Row → List File → Type 0
  Has rows files = (is_delivered rows id ≡ true) ⊎ HasAmong files

  on : {P Q : Type 0} (xs ys : List File) → (P → Q ⊎ HasAmong ys) → ((f : File) → Contains xs f → Contains ys f)
      → P ⊎ HasAmong xs → Q ⊎ HasAmong ys
  on _ _ so more = ⊎_elim so (λ (f, there, named, durable). inr (f, more f there, named, durable))

  front : {P : Type 0} (xs ys : List File) → P ⊎ HasAmong xs → P ⊎ HasAmong (xs ++ ys)
  front xs ys = on xs (xs ++ ys) inl (Contains-append_left xs ys)

  -- one mark more
  one_mark : (rows : List Row) (uid : List ℕ) (reply : WholeReply) → is_delivered (marked rows uid) id ≡ true
      → Has rows (file_from account uid reply ∷ [])
  one_mark rows uid reply d = ⊎_map (λ was. was) (λ both. (
    file_from account uid reply,
    (0, omega arith, refl),
    rw (← (bytes_eq-Decides uid id).0 (and_parts (has_row rows id) (bytes_eq uid id) both).1) (its_name _ _),
    (refl, refl),
  )) (or_cases _ _ (cc (laws.marks rows uid id)))

  -- what these tasks marked
  marks_have : (dones : List Done) (rows : List Row) → AllByRecursion IsAnswered dones
      → is_delivered (marked_all rows (marked_ids dones)) id ≡ true → Has rows (files_of account dones)
  marks_have [] rows each d = inl d
  marks_have (done ∷ dones) rows each d =
      let here = files_in account done.task done.replies in
      let rest = files_of account dones in
      on _ _ (λ was. front here rest (first done.task done.replies each.0 was)) (Contains-append_right here rest)
      (marks_have dones (marked_all rows (ids_in done.task)) each.1 (rw marked_on at d))
    where
      first : (task : Task) (replies : List WholeReply) → IsAnswered (record { task = task; replies = replies })
          → is_delivered (marked_all rows (ids_in task)) id ≡ true → Has rows (files_in account task replies)
      first (stores number uid) [] never d = absurd never
      first (stores number uid) (reply ∷ replies) good d =
          front (file_from account uid reply ∷ []) (files_in account (stores number uid) replies) (one_mark rows uid reply d)
      first other replies good d = inl d

  -- what was found and isn't shown as delivered is durable
  found_has : (maildir : Maildir) (rows : List Row) (items : List Item)
      → FoundDurable account maildir items (are_undelivered rows items) → is_delivered rows id ≡ false
      → is_flagged items (flags_of account maildir items) id ≡ true → HasAmong maildir.files
  found_has maildir rows [] found new never = absurd cc
  found_has maildir rows (item ∷ items) (found, more) new flagged =
      elim (cases_Bool (bytes_eq item.uid id && is_held account maildir item.uid)) [
        | inl here ↦
            let both = and_parts (bytes_eq item.uid id) (is_held account maildir item.uid) here in
            let same = (bytes_eq-Decides item.uid id).0 both.0 in
            subst (λ (uid : List ℕ). HasDurable account maildir uid) same (found (rw same (rw new refl)) both.1)
        | inr not ↦ found_has maildir rows items more new (grind (arith, flagged, not))
      ]

  merged_has : (maildir : Maildir) (rows : List Row) (items : List Item) (now : ℕ)
      → FoundDurable account maildir items (are_undelivered rows items)
      → is_delivered (merged rows items (flags_of account maildir items) now) id ≡ true → Has rows maildir.files
  merged_has maildir rows items now found d =
      ⊎_elim inl (λ flagged. ⊎_elim inl (λ new. inr (found_has maildir rows items found new flagged))
      (cases_Bool (is_delivered rows id))) (or_cases _ _ (sym (laws.flagged rows items (flags_of account maildir items) now id) ∙ d))

  -- two lists of rows for which a file stands
  as_rows : (file : Stored) (a b : List Row) → KeepsRows file.content a → KeepsRows file.content b → is_delivered a id ≡ true
      → is_delivered b id ≡ true
  as_rows file a b (i, x) (j, y) d = rw (laws.one _ a b i j x y).0 at d

  -- ---- a session

  module _ (before after : AccountFiles) (was : List Row) (stood : KeepsRows before.file.content was) where
    -- what these rows show was shown before, or a durable file is there
    abbrev Shown : List Row → List File → Type 0
    Shown rows files = is_delivered rows id ≡ true → Has was files

    shown_same : (files : List File) (rows : List Row) → KeepsRows before.file.content rows → Shown rows files
    shown_same _ rows keeps d = inl (as_rows before.file rows was keeps stood d)

    unready_shown : (items : List Item) (now : ℕ) → after.maildir.files ≡ before.maildir.files
        → IsMergedAtMost (AsFiles account) items now (in_maildir before.maildir) before.file (in_maildir after.maildir) after.file
        → (rows : List Row) → KeepsRows after.file.content rows → Shown rows after.maildir.files
    unready_shown items now same (inl is) rows keeps d = shown_same _ rows (rw is at keeps) d
    unready_shown items now same (inr m) rows keeps d =
        let known = shown_same _ m.was.rows (m.was.intent, m.stood) in
        elim m.stands [
          | inl old ↦ known (as_rows after.file rows m.was.rows keeps (m.was.intent, old) d)
          | inr merge ↦
              let d' = as_rows after.file rows _ keeps (None, merge) d in
              on before.maildir.files _ known (λ f there. rw same there) (⊎_elim (λ no_more. inl (rw no_more at d'))
              (λ durable. merged_has before.maildir m.was.rows items now durable.1 d') m.durable)
        ]

    module _ {settings : Settings} {items : List Item} {now : ℕ} {place : Place} {lines : List ReportLine}
        {r : Result (Unit {0}) Cut} {new : Scene} {skipped : Skips}
        (c : Carried settings (AsFiles account) items now place (in_maildir before.maildir) before.file lines r new skipped) where
      open c use {mid}

      prepared_shown : Shown mid.rows before.maildir.files
      prepared_shown d = elim c.prepared.durable [
        | inl (quiet, inl same) ↦
            shown_same _ mid.rows (None, rw same at (steady_keeps mid.file.content (none_open mid.rows) c.prepared.saved)) d
        | inl (quiet, inr anew) ↦ shown_same _ mid.rows (None, anew.0) d
        | inr durable ↦ on _ _ (shown_same _ c.prepared.was.rows (c.prepared.was.intent, c.prepared.stood)) (λ _ there. there)
            (merged_has before.maildir c.prepared.was.rows items now durable.1 (rw c.prepared.rows at d))
      ]

      -- after some tasks
      went_shown : {later : Scene} (dones : List Done) → Went (AsFiles account) dones mid later
          → Shown later.rows later.store.maildir.files
      went_shown {later} dones went d =
          let old = before.maildir.files in
          let files = files_of account dones in
          let came : later.store.maildir.files ≡ old ++ files = went.stored.came
          ∙ ap (λ (s : Stores). s.maildir.files ++ files) c.prepared.settles in
          rw came (on _ _ (λ known. front old files (prepared_shown known)) (Contains-append_right old files)
          (marks_have dones mid.rows went.each (rw went.rows at d)))

      keeps_mid : {later : Scene} (dones : List Done) → Went (AsFiles account) dones mid later → KeepsRows later.file.content later.rows
      keeps_mid {later} _ went = (None, steady_keeps _ _ (went.saved c.prepared.saved))

      carried_shown : (rows : List Row) → KeepsRows new.file.content rows → Shown rows new.store.maildir.files
      carried_shown rows keeps d = by r _ c.does
        where
          by : (r : Result (Unit {0}) Cut) (tasks : List Task) → Does (AsFiles account) tasks mid r new → Has was new.store.maildir.files
          by (Ok done) tasks all = went_shown all.dones all.went (as_rows new.file rows new.rows keeps (keeps_mid all.dones all.went) d)
          by (Err cut) tasks fell = stopped fell.stops
            where
              then_has : (files : List File) → new.store.maildir.files ≡ fell.mid.store.maildir.files ++ files
                  → Shown fell.mid.rows new.store.maildir.files
              then_has files came known =
                  rw came (front fell.mid.store.maildir.files files (went_shown fell.dones fell.went known))

              unmarked : FilesCame fell.mid.store.maildir new.store.maildir → new.file ≡ fell.mid.file → Has was new.store.maildir.files
              unmarked came same = then_has (came.came ++ came.last) came.files
                  (as_rows fell.mid.file rows fell.mid.rows (rw same at keeps) (keeps_mid fell.dones fell.went) d)

              stopped : Stops (AsFiles account) fell.next fell.mid cut new → Has was new.store.maildir.files
              stopped (inl broken) = unmarked (stops_came account (inl broken)) broken.file
              stopped (inr (inl n)) = unmarked (stops_came account (inr (inl n))) n.file
              stopped (inr (inr u)) =
                  let file = file_from account u.uid u.reply ∷ [] in
                  elim (unsaved_keeps fell.mid.file (none_open fell.mid.rows) (none_open (marked fell.mid.rows u.uid))
                  cut.fault new.file u.saves (fell.went.saved c.prepared.saved)) [
                    | inl old ↦ then_has file u.stored.came (as_rows new.file rows fell.mid.rows keeps (None, old) d)
                    | inr more ↦ on file new.store.maildir.files (then_has file u.stored.came)
                        (λ f there. rw u.stored.came (Contains-append_right fell.mid.store.maildir.files file f there))
                        (one_mark fell.mid.rows u.uid u.reply
                        (as_rows new.file rows (marked fell.mid.rows u.uid) keeps (None, more) d))
                  ]

    proceeds_shown : (settings : Settings) (now : ℕ) (old : Place) (r : Result (Unit {0}) Cut) (new : Place) (notes : Noted)
        → Proceeds settings (AsFiles account) now old (keeps_files before) r new (keeps_files after) notes
        → (rows : List Row) → KeepsRows after.file.content rows → Shown rows after.maildir.files
    proceeds_shown _ _ _ (Ok done) _ _ dealt = carried_shown dealt.carries.1
    proceeds_shown _ _ _ (Err _) _ _ (inl is) = λ rows keeps. shown_same _ rows (rw (ap (λ (k : Keeping). k.file.content) is.same) at keeps)
    proceeds_shown _ _ _ (Err _) _ _ (inr (inl is)) =
        λ rows keeps. shown_same _ rows (rw (ap (λ (k : Keeping). k.file.content) is.same) at keeps)
    proceeds_shown _ now _ (Err cut) _ _ (inr (inr dealt)) = elim dealt.carries.1 [
      | inl un ↦ unready_shown dealt.items now
          (unready_same cut.fault before.maildir before.file after.maildir after.file un.1.unready.cause) un.1.unready.content
      | inr carried ↦ carried_shown carried
    ]

pub sessions_are_durable : DurableLaws → SessionsAreDurable
sessions_are_durable laws settings account now link before _ _ after text session =
    let is = proceeds_came account _ _ _ _ _ _ session.notes session.result session.proceeds in record {
      came = is.came;
      last = is.last;
      files = is.files;
      durable = is.durable;
      flushed = is.flushed;
      at_most_one = is.at_most_one;
      shown = λ was rows id stood.
          proceeds_shown laws account text id before after was stood _ _ _ session.result _ session.notes session.proceeds rows;
    }
