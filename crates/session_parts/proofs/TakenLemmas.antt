-- Which files of a Maildir a session leaves.
use Rattle.std.{
  proofs.Common.{◌≡◌, ◌≤◌, ℕ, List, [], ◌∷◌, ◌++◌, length, Option, Result, Ok, Err, refl, sym, ap, arith, inl, inr, append_assoc},
  proofs.lemmas.List.append-nil,
  specs.List.AllByRecursion,
}
use Rattle.pop3_wire.specs.{Place.Place, Bodies.Rest, Reading.WholeReply}
use Rattle.mail_terms.{specs.Listing.Item, proofs.ListLemmas.all_append}
use Rattle.rc_file.specs.declared.settings.Settings.{Settings}
use Rattle.mail_store.specs.{FileName.{sized_file, stem_of}, FlatFile.Stored, Maildir.{AllFlushed, Draft, File, IsDurableFile, Maildir}}
use Rattle.session_parts.specs.{
  declared.fault.{Cut.Cut, Fault.{Fault, TheVariants.StoreRefused}, Why.TheVariants.Refused},
  Laws.SessionsKeepFiles,
  Readiness.UnreadyCause,
  CarryingOut.Carried,
  Scene.{Does, Scene, Stops},
  Session.{Keeping, Noted, Proceeds},
  Store.{Gained, RefusesText},
  Target.{AsFiles, Stores},
  Task.{Done, Task, files_in, files_of, stores},
}

-- durable files came, and perhaps one whose name may not be durable; none was taken, and the same names are odd
pub record FilesCame (old new : Maildir) : Type 0 where
  pub came : List File
  pub last : List File
  pub files : new.files ≡ old.files ++ (came ++ last)
  pub durable : AllByRecursion IsDurableFile came
  pub flushed : AllFlushed last
  pub at_most_one : length last ≤ 1
  pub taken : new.taken ≡ old.taken
  pub odd : new.odd ≡ old.odd

no_file_came : {old new : Maildir} {draft : Option Draft} {n : ℕ} → new ≡ record old { begun = draft; failures = n } → FilesCame old new
no_file_came {old} is = rw is (record {
  came = [];
  last = [];
  files = sym (append-nil old.files);
  durable = tt;
  flushed = tt;
  at_most_one = omega arith;
  taken = refl;
  odd = refl;
})

came_then : (a b c : Maildir) (files : List File) → Gained a b files → AllByRecursion IsDurableFile files → FilesCame b c → FilesCame a c
came_then a b c files first durable then = record {
  came = files ++ then.came;
  last = then.last;
  files = simp (then.files, first.came, append_assoc);
  durable = all_append _ _ _ durable then.durable;
  flushed = then.flushed;
  at_most_one = then.at_most_one;
  taken = cc;
  odd = cc;
}

all_durable : (account : List ℕ) (dones : List Done) → AllByRecursion IsDurableFile (files_of account dones)
all_durable account [] = tt
all_durable account (d ∷ dones) = all_append IsDurableFile (files_in account d.task d.replies) (files_of account dones)
    (by d.task d.replies) (all_durable account dones)
  where
    by : (task : Task) (replies : List WholeReply) → AllByRecursion IsDurableFile (files_in account task replies)
    by (stores number uid) [] = tt
    by (stores number uid) (reply ∷ replies) = ((refl, refl), by (stores number uid) replies)
    by other replies = tt

refused_came : (old : Maildir) (stem text : List ℕ) (rest : Rest) (fault : Fault) (new : Maildir)
    → RefusesText old stem rest text fault new → FilesCame old new
refused_came _ _ _ _ _ _ (inl (_, _, same)) = no_file_came same
refused_came _ _ _ _ _ _ (inr (_, inl dropped)) = no_file_came dropped
refused_came _ stem text _ _ _ (inr (_, inr (_, (is_named, one)))) = rw one (record {
  came = [];
  last = record (sized_file stem text) { is_named = is_named } ∷ [];
  files = refl;
  durable = tt;
  flushed = (refl, tt);
  at_most_one = omega arith;
  taken = refl;
  odd = refl;
})

pub unready_same : (fault : Fault) (old : Maildir) (file : Stored) (new : Maildir) (file' : Stored)
    → UnreadyCause fault old file new file' → new.files ≡ old.files
unready_same (StoreRefused Refused) old file new file' is = rw is refl
unready_same fault old file new file' is = grind arith

unready_came : (fault : Fault) (old : Maildir) (file : Stored) (new : Maildir) (file' : Stored)
    → UnreadyCause fault old file new file' → FilesCame old new
unready_came (StoreRefused Refused) old file new file' is = no_file_came is
unready_came fault old file new file' is = let same : new ≡ old = grind arith in no_file_came same

module _ (account : List ℕ) where
  pub stops_came : {next : Task} {old new : Scene} {cut : Cut} → Stops (AsFiles account) next old cut new
      → FilesCame old.store.maildir new.store.maildir
  stops_came (inl broken) = no_file_came (ap (λ (s : Stores). s.maildir) broken.store)
  stops_came (inr (inl none)) = refused_came _ (stem_of account none.uid) none.text none.rest _ _ none.refuses
  stops_came (inr (inr unsaved)) = came_then _ _ _ _ unsaved.stored ((refl, refl), tt) (no_file_came refl)

  does_came : (tasks : List Task) (old new : Scene) (r : Result (Unit {0}) Cut) → Does (AsFiles account) tasks old r new
      → FilesCame old.store.maildir new.store.maildir
  does_came _ _ _ (Ok done) all = came_then _ _ _ _ all.went.stored (all_durable account all.dones) (no_file_came refl)
  does_came _ _ _ (Err cut) fell = came_then _ _ _ _ fell.went.stored (all_durable account fell.dones) (stops_came fell.stops)

  module _ (settings : Settings) (now : ℕ) (old new : Place) (before after : Keeping) (notes : Noted) where
    carried_came : {items : List Item} {place : Place} {end : Scene} (r : Result (Unit {0}) Cut)
        → Carried settings (AsFiles account) items now place before.store before.file [] r end notes.skipped
        → FilesCame before.store.maildir end.store.maildir
    carried_came r is = rw (← ap (λ (s : Stores). s.maildir) is.prepared.settles) (does_came _ is.mid _ r is.does)

    pub proceeds_came : (r : Result (Unit {0}) Cut) → Proceeds settings (AsFiles account) now old before r new after notes
        → FilesCame before.store.maildir after.store.maildir
    proceeds_came (Ok done) dealt = carried_came (Ok done) dealt.carries.1
    proceeds_came (Err cut) (inl is) = no_file_came (ap (λ (k : Keeping). k.store.maildir) is.same)
    proceeds_came (Err cut) (inr (inl is)) = no_file_came (ap (λ (k : Keeping). k.store.maildir) is.same)
    proceeds_came (Err cut) (inr (inr dealt)) = elim dealt.carries.1 [
      | inl un ↦ unready_came _ _ _ _ _ un.1.unready.cause
      | inr carried ↦ carried_came (Err cut) carried
    ]

pub sessions_keep_files : SessionsKeepFiles
sessions_keep_files _ account _ _ _ _ _ _ session =
    let is = proceeds_came account _ _ _ _ _ _ session.notes session.result session.proceeds in
    (is.came ++ is.last, is.files, is.taken, is.odd)
