-- A session that was cut has its cause.
use Rattle.std.{
  proofs.Common.{◌≡◌, ◌≤◌, ℕ, List, [], ◌∷◌, ◌++◌, Result, Ok, Err, refl, sym, ap, ◌∙◌, append_assoc, inl, inr, arith},
  proofs.lemmas.List.{Concat.flat_map-append, Folds.flat_map-map},
  specs.String.string_bytes,
}
use Rattle.fetch_record.specs.Record.{RecordState, Row}
use Rattle.mail_terms.specs.Listing.{Item}
use Rattle.mail_store.specs.{FlatFile.Stored, MboxCalls.RefusesLook, Maildir.Maildir, declared.fault.StoreFault.StoreFault}
use Rattle.rc_file.specs.declared.settings.Settings.{Settings}
use Rattle.pop3_wire.specs.{Link.Link, Reading.WholeReply, Place.{Place, at}}
use Rattle.pop3_client.specs.{
  Conversation.{Broke, Talked, TurnsJoin},
  Texts.body_text,
  declared.fault.ClientFault.ClientFault,
  Turns.{Turn, asking},
}
use Rattle.session_parts.specs.{
  declared.fault.{Cut.Cut, Fault.{Fault, TheVariants.{NoMemory, SeenRefused, BadSeen, StoreRefused}}},
  declared.fault.Why.TheVariants.{Missing, Refused, NotMbox},
  Fault.fault_of,
  Cuts.{ArePlanned, CausesFault, CutsHaveCauses, refused_in},
  Mbox.{IsStoreFault, LeavesSame, RefusesEntry},
  Opening.{Enters, opening},
  CarryingOut.{Carried, tasks_ahead},
  Readiness.{CausesUnready, SettlesStore},
  Record.Saves,
  Scene.{NotSaved, NotStored, Scene, Stops},
  Session.{Enters_with, Keeping, Proceeds, keeping, outcome_of},
  Store.Brings,
  Target.{Target, AsFiles, AsEntries, Stores},
  Task.{Done, Task, tasks_of, turns_ahead, turns_in, turns_of},
}
use Rattle.mail_store.specs.declared.fault.StoreFault.TheVariants as refused
use Rattle.pop3_client.specs.declared.fault.ClientFault.TheVariants as talk

-- no turn breaks for listings that don't agree
no_turn_disagrees : (turn : Turn) (old new : Place) → Broke turn old new talk.ListingsDisagree → ⊥
no_turn_disagrees _ _ _ (inl (is, _)) = cc
no_turn_disagrees _ _ _ (inr (inl not)) = not.cause
no_turn_disagrees _ _ _ (inr (inr (is, _, _))) = cc

-- the count of a store's refused calls didn't fall
abbrev NoLess : Target → Stores → Stores → Type 0
NoLess target old new = refused_in target old ≤ refused_in target new

module _ (settings : Settings) (target : Target) (now : ℕ) (link : Link) (before : Keeping) where
  by_turn : (turns : List Turn) (replies : List WholeReply) (mid : Place) → Talked turns replies (at link []) mid → (next : Turn)
      (later : List Turn) → ArePlanned settings target now link before mid.link (turns ++ next ∷ later) → (new : Place) (after : Keeping)
      (why : ClientFault) → Broke next mid new why → CausesFault settings target now link before (fault_of why) new after
  by_turn _ _ _ _ _ _ _ _ _ talk.ListingsDisagree broke = absurd (no_turn_disagrees _ _ _ broke)
  by_turn _ _ _ _ _ _ _ _ _ talk.NoMemory _ = tt
  by_turn turns replies mid talked next later planned _ _ why broke = record {
    turns = turns;
    replies = replies;
    next = next;
    later = later;
    planned = planned;
    mid = mid;
    talked = talked;
    broke = (why, refl, broke);
  }

  by_opening : (why : ClientFault) (new : Place) (after : Keeping)
      → Enters (string_bytes settings.username) (string_bytes settings.password) (at link []) (Err why) new
      → CausesFault settings target now link before (fault_of why) new after
  by_opening why new after (inl stopped) = by_turn _ stopped.replies stopped.mid stopped.talked stopped.next
      stopped.later (inl (sym stopped.split)) new after why stopped.broke
  by_opening _ _ _ (inr (inl (is, (count, uids, sizes, opened, disagree)))) =
      rw is (record { count = count; uids = uids; sizes = sizes; opened = opened; disagree = disagree })
  by_opening _ _ _ (inr (inr (is, _))) = rw is tt

-- what makes a store unready
module _ (settings : Settings) (now : ℕ) (link : Link) (items : List Item) (store : Stores) (file : Stored)
    (store' : Stores) (file' : Stored) (mid : Place) where
  unready : (target : Target) (fault : Fault) → CausesUnready target items fault store file store' file'
      → CausesFault settings target now link (keeping store file) fault mid (keeping store' file')
  unready (AsFiles _) SeenRefused c = c.0
  unready (AsFiles _) (BadSeen _) c = c.0
  unready (AsFiles _) (StoreRefused Missing) c = inr (rw c.1 c.0)
  unready (AsFiles _) (StoreRefused Refused) c = omega (arith, ap (λ (m : Maildir). m.failures) c)
  unready (AsFiles _) NoMemory c = tt
  unready (AsFiles _) _ c = absurd c
  unready AsEntries SeenRefused c = c.0
  unready AsEntries (BadSeen _) c = c.0
  unready AsEntries (StoreRefused Missing) c = rw c.1 c.0
  unready AsEntries (StoreRefused Refused) c = c.0
  unready AsEntries (StoreRefused NotMbox) c = c.0
  unready AsEntries NoMemory c = tt
  unready AsEntries _ c = absurd c

-- neither settling nor what came refused anything
brought : (target : Target) (was : RecordState) (items : List Item) (dones : List Done) (old mid new : Stores)
    → SettlesStore target was items old mid → Brings target dones mid new → NoLess target old new
brought (AsFiles _) _ _ _ _ _ _ same brings = omega (arith, ap (λ (s : Stores). s.maildir.failures) same, brings.failures)
brought AsEntries _ _ _ _ _ _ (_, _, same, _) brings = omega (arith, ap (λ (s : Stored). s.failures) same, brings.failures)

module _ (settings : Settings) (now : ℕ) (link : Link) (before : Keeping) (old : Scene)
    (file_count : before.file.failures ≤ old.file.failures) (next : Task) (new : Scene) (cut : Cut) where
  abbrev Causes : Target → Fault → Type 0
  Causes target fault = CausesFault settings target now link before fault new.place (keeping new.store new.file)

  by_store : (target : Target) → NoLess target before.store old.store → NotStored target next old new cut → Causes target cut.fault
  by_store (AsFiles account) less not = elim not.refuses [
    | inl (is, tmp, same) ↦ rw is (inl (rw same tmp))
    | inr (is, inl dropped) ↦ rw is (omega (arith, less, ap (λ (m : Maildir). m.failures) dropped))
    | inr (is, inr (_, (_, has))) ↦ rw is (omega (arith, less, ap (λ (m : Maildir). m.failures) has))
  ]
  by_store AsEntries less (inl room) = rw room.wants tt
  by_store AsEntries less (inr (inl not)) = by cut.fault not.refuses
    where
      by : (fault : Fault) → RefusesEntry old.store.mbox old.file old.rows not.uid (body_text not.reply.body) fault
          new.store.mbox new.file → Causes AsEntries fault
      by (StoreRefused Missing) (none, same, _) = rw same none
      by (StoreRefused Refused) (inl (same, _)) = omega (arith, less, ap (λ (s : Stored). s.failures) same)
      by (StoreRefused Refused) (inr (_, (_, _, _, _, _, same))) = omega (arith, less, ap (λ (s : Stored). s.failures) same)
      by (StoreRefused NotMbox) (other, same, _) = rw same other
      by SeenRefused (_, (_, _, saves)) = omega (arith, file_count, saves.0)
      by NoMemory _ = tt
      by _ refuses = absurd refuses
  by_store AsEntries less (inr (inr left)) = let (why, is, (look, same)) = left.refuses in by why is look same
    where
      by : (why : StoreFault) → IsStoreFault why cut.fault → RefusesLook old.store.mbox.content why
          → LeavesSame {T = Unit {0}} old.store.mbox (Err why) new.store.mbox → Causes AsEntries cut.fault
      by refused.Missing is none same = rw is (rw same none)
      by refused.Refused is _ same = rw is (omega (arith, less, ap (λ (s : Stored). s.failures) same))
      by refused.NotMbox is other same = rw is (rw same other)
      by refused.NoMemory is never _ = absurd never

  -- saving the record failed
  by_saving : (target : Target) (fault : Fault) (file : Stored) (was now : RecordState) → before.file.failures ≤ file.failures
      → Saves file was now (Err fault) new.file → Causes target fault
  by_saving _ SeenRefused _ _ _ more saves = omega (arith, more, saves.0)
  by_saving _ NoMemory _ _ _ _ _ = tt
  by_saving _ _ _ _ _ _ saves = absurd saves

  by_mark : (target : Target) → NotSaved target next old new cut → Causes target cut.fault
  by_mark (AsFiles account) not = by_saving (AsFiles account) cut.fault old.file _ _ file_count not.saves
  by_mark AsEntries not =
      let (was, is, mid, first, then) = not.saves in
      by_saving AsEntries cut.fault mid _ _ (omega (arith, file_count, first.0)) then

  by_task : (target : Target) (turns : List Turn) (replies : List WholeReply)
      → Talked turns replies (at link []) old.place → NoLess target before.store old.store
      → ((turn : Turn) → turns_in next ≡ turn ∷ [] → (later : List Turn)
      × ArePlanned settings target now link before old.place.link (turns ++ turn ∷ later))
      → Stops target next old cut new → Causes target cut.fault
  by_task target turns replies talked less ahead (inl broken) =
      let (why, is, broke) = broken.broke in
      let (later, planned) = ahead broken.turn broken.takes in
      rw is (by_turn settings target now link before turns replies old.place talked broken.turn later planned new.place
      (keeping new.store new.file) why broke)
  by_task target _ _ _ less _ (inr (inl not)) = by_store target less not
  by_task target _ _ _ _ _ (inr (inr not)) = by_mark target not

pub cuts_have_causes : TurnsJoin → CutsHaveCauses
cuts_have_causes join settings target now link before report _ after done fault is =
    by_result done.result done.proceeds done.reports.outcome_is
  where
    -- the plan was cut
    by_plan : {items : List Item} {mid : Place} {cut : Cut} {new : Scene} → Enters_with settings (at link []) (Ok items) mid
        → Carried settings target items now mid before.store before.file [] (Err cut) new done.notes.skipped
        → CausesFault settings target now link before cut.fault new.place (keeping new.store new.file)
    by_plan {items} {mid} {cut} {new} enters carried =
        let prepared = carried.prepared in
        let fell = carried.does in
        let (count, uids, sizes, opened, joins) = enters in
        let went = rw prepared.place_is at fell.went.talked in
        let begin = opening (string_bytes settings.username) (string_bytes settings.password) in
        by_task settings now link before fell.mid (omega (arith, prepared.file_count, fell.went.file_count)) fell.next new
        cut target (begin ++ turns_of fell.dones) _ (join.on _ _ _ _ _ _ _ opened.talked went)
        (brought target prepared.was items fell.dones before.store carried.mid.store fell.mid.store prepared.settles fell.went.stored)
        (λ turn takes.
        let ahead : turns_ahead (tasks_of fell.dones ++ fell.next ∷ fell.later) ≡ turns_of fell.dones ++ turn ∷ turns_ahead
        fell.later = simp (flat_map-append, flat_map-map, takes) in (
          turns_ahead fell.later,
          inr (
            items,
            mid,
            enters,
            record { said = asking (turns_of fell.dones); gained = went.gained; sent = went.sent; got = went.got },
            (
              prepared.was,
              prepared.stood,
              append_assoc begin (turns_of fell.dones) (turn ∷ turns_ahead fell.later)
                  ∙ ap (λ (ts : List Turn). begin ++ ts) (sym (ap turns_ahead fell.split ∙ ahead))
                  ∙ ap (λ (rows : List Row). begin ++ turns_ahead (tasks_ahead settings target items now before.store rows)) prepared.rows,
            ),
          ),
        )) fell.stops

    by_session : (cut : Cut) → Proceeds settings target now (at link []) before (Err cut) done.mid after done.notes
        → CausesFault settings target now link before cut.fault done.mid after
    by_session cut (inl not) =
        rw (ap (λ (c : Cut). c.fault) not.is) (by_opening settings target now link before not.why done.mid after not.enters)
    by_session cut (inr (inl room)) = rw (ap (λ (c : Cut). c.fault) room.is) tt
    by_session cut (inr (inr dealt)) = elim dealt.carries.1 [
      | inl un ↦ unready settings now link dealt.items before.store before.file after.store after.file done.mid target
          cut.fault un.1.unready.cause
      | inr carried ↦ by_plan dealt.enters carried
    ]

    by_result : (result : Result (Unit {0}) Cut) → Proceeds settings target now (at link []) before result done.mid after done.notes
        → report.outcome ≡ outcome_of result → CausesFault settings target now link before fault done.mid after
    by_result (Ok _) _ outcome = cc
    by_result (Err cut) proceeds outcome =
        let same : cut.fault ≡ fault = cc in
        rw same at (by_session cut proceeds)
