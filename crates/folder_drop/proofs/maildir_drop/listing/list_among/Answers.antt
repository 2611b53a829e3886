use Rattle.std.proofs.{
  Common.{◌≡◌, ◌≤◌, ◌∙◌, ◌++◌, ◌∷◌, [], All, Contains, List, ℕ, ap, arith, inl, inr, length, map, refl, subst, sym},
  lemmas.{Bool.false≢true, List.Elements.{All-nil, All-push, Contains-push}, List.map-id},
  lemmas.Iterator.{Adapters.YieldsList-from_vec, Consumers.YieldsList-end},
}
use Rattle.std.specs.Vec.Iter.{into_iter_items}
use Rattle.mail_terms.specs.MaildirName.{base}
use Rattle.pop3_server.specs.Maildrop.{max_count, max_size}
use Rattle.folder_drop.specs.{
  declared.{listed_file.ListedFile.ListedFile, maildir_names.{Folder.Folder, PlacedFile.PlacedFile}},
  Listing.{FollowsLast, IsAccountedFor, IsBeforeLast, IsMeasured, IsPassedOver, ListsFound, MayBeListed},
  MaildirMail.uid_in,
  MaildirNames.{IsIdKey, id_of},
  Places.{base_of_file, folder_and_name},
  RealMaildir.{listed_name, listed_place},
}
use Rattle.folder_drop.proofs.ListingLemmas.{
  ListsSo,
  ListsSo-more,
  ListsSo-none,
  ListsSo-same,
  chosen_all,
  chosen_full,
  entry_same,
  id_there,
}
use Rattle.folder_drop.proofs.MeasureLemmas.{measured_so, passed_so}
use Rattle.folder_drop.proofs.MaildirLemmas.{LastIsOf, all_still, found_among, found_still, in_order_here, last_now, last_still}
use Rattle.folder_drop.proofs.MaildirLemmas.{
  listed_long,
  measured_among,
  next_id_new,
  no_last_file,
  taken_front,
  now_listed,
  passed_among,
  below_limit,
  same_as_last,
}
use Rattle.folder_drop.proofs.maildir_drop.listing.list_among.Goals as goal

pub loop-file-init : goal.loop-file-init
loop-file-init g c =
    let IsSo = IsMeasured g.D.File.Read.remaining (g.D.MailFiles.found c.args.files.now)
    (g.D.MailFiles.opened c.args.files.now) (g.D.MailFiles.told c.args.files.now) c.args.earlier.now in (
      c.in_ok-listed.ensures.listed,
      no_last_file _ c.in_ok-listed.ensures.empty,
      λ file there. subst (λ (files : List ListedFile). Contains files file) c.new-counted.ensures there,
      All-nil _,
      subst (λ (files : List ListedFile). All (ListsFound IsSo []) files) (sym c.in_ok-listed.ensures.empty) (All-nil _),
      λ s right. subst (λ (files : List ListedFile). ListsSo (g.D.MailFiles.files c.args.files.now) [] files)
          (sym c.in_ok-listed.ensures.empty) (ListsSo-none (g.D.MailFiles.files c.args.files.now)),
    )

pub loop-file-preserved-then-not-is_behind : goal.loop-file-preserved-then-not-is_behind
loop-file-preserved-then-not-is_behind g c =
    let Passed = IsPassedOver g.D.File.Read.remaining (g.D.MailFiles.found c.args.files.now)
    (g.D.MailFiles.opened c.args.files.now) (g.D.MailFiles.told c.args.files.now) c.args.earlier.now in
    let IsSo = IsMeasured g.D.File.Read.remaining (g.D.MailFiles.found c.args.files.now)
    (g.D.MailFiles.opened c.args.files.now) (g.D.MailFiles.told c.args.files.now) c.args.earlier.now in
    let known = c.loop-file.invariant in
    let files = c.loop-file.listed.files.items in
    let before = c.loop-file.yielded in
    let file = c.in-Some.file in
    let it = c.into_iter-file-iterator in
    let rest = c.next.new.self in
    let order = in_order_here c.args.found.items it.result before c.loop-file.file-iterator file rest it.ensures.into_iter_gives.0
    c.loop-file.yielded_by c.in-Some.ensures.steps c.requires in
    let behind = subst (λ name. IsBeforeLast files name) c.base-base.ensures (c.if-not-is_behind.ensures.before refl) in
    let had = same_as_last files before (into_iter_items rest) file order known.1 behind in (
      known.0,
      last_still files before file known.1,
      known.2,
      All-push (IsAccountedFor Passed files) before file known.3
          (inl had),
      found_still IsSo before (file ∷ []) files known.4,
      λ s right. ListsSo-same (g.D.MailFiles.files c.args.files.now) before file files
          (λ f there place. inr (id_there files file f place had)) (known.5 s right),
    )

pub loop-file-preserved-then-not-is_unseen : goal.loop-file-preserved-then-not-is_unseen
loop-file-preserved-then-not-is_unseen g c =
    let Passed = IsPassedOver g.D.File.Read.remaining (g.D.MailFiles.found c.args.files.now)
    (g.D.MailFiles.opened c.args.files.now) (g.D.MailFiles.told c.args.files.now) c.args.earlier.now in
    let IsSo = IsMeasured g.D.File.Read.remaining (g.D.MailFiles.found c.args.files.now)
    (g.D.MailFiles.opened c.args.files.now) (g.D.MailFiles.told c.args.files.now) c.args.earlier.now in
    let known = c.loop-file.invariant in
    let files = c.loop-file.listed.files.items in
    let before = c.loop-file.yielded in
    let file = c.in-Some.file in
    let key = subst (λ name. IsIdKey c.in_ok-long_id.long_id (id_of name)) (c.as_bytes.ensures.value
    ∙ c.base-base.ensures) c.in_ok-long_id.ensures in
    let had = listed_long c.loop-file.listed.long_ids files c.in_ok-long_id.long_id (base_of_file file) known.0 key
    (λ unseen. false≢true (c.if-not-is_unseen.ensures.1 unseen)) in (
      known.0,
      last_still files before file known.1,
      known.2,
      All-push (IsAccountedFor Passed files) before file known.3 (inl had),
      found_still IsSo before (file ∷ []) files known.4,
      λ s right. ListsSo-same (g.D.MailFiles.files c.args.files.now) before file files
          (λ f there place. inr (id_there files file f place had)) (known.5 s right),
    )

pub returns-then-is_full-clause-whole : goal.returns-then-is_full-clause-whole
returns-then-is_full-clause-whole g c = λ k d fits.
    let full = c.if-is_full.ensures.0 refl in
    let ok = c.loop-file.listed.files.ok in inr (inl (omega (arith, full, ok)))

pub loop-file-preserved-in-None-2 : goal.loop-file-preserved-in-None-2
loop-file-preserved-in-None-2 g c =
    let fs = c.args.files.now in
    let files_now = g.D.MailFiles.files fs in
    let Passed = IsPassedOver g.D.File.Read.remaining (g.D.MailFiles.found c.args.files.now)
    (g.D.MailFiles.opened c.args.files.now) (g.D.MailFiles.told c.args.files.now) c.args.earlier.now in
    let IsSo = IsMeasured g.D.File.Read.remaining (g.D.MailFiles.found c.args.files.now)
    (g.D.MailFiles.opened c.args.files.now) (g.D.MailFiles.told c.args.files.now) c.args.earlier.now in
    let known = c.loop-file.invariant in
    let files = c.loop-file.listed.files.items in
    let before = c.loop-file.yielded in
    let file = c.in-Some.file in
    let none = rw c.in-None-2.is at c.in_ok-measured.ensures.none in
    let passed = passed_among g.D.File.Read.remaining (g.D.MailFiles.found c.args.files.now)
    (g.D.MailFiles.opened c.args.files.now) (g.D.MailFiles.told c.args.files.now) c.loop-file.counted.files.now
    c.args.earlier.now file known.2 none in (
      known.0,
      last_still files before file known.1,
      λ f there. known.2 f (c.measure.ensures.rest f there),
      All-push (IsAccountedFor Passed files) before file known.3 (inr (inr passed)),
      found_still IsSo before (file ∷ []) files known.4,
      λ s right. ListsSo-same files_now before file files (λ f there place. inl (passed_so g.D.File.Read.remaining (g.D.MailFiles.found fs)
          (g.D.MailFiles.opened fs) (g.D.MailFiles.told fs) files_now (record {
            whole = g.met.D.MailFiles.whole fs s;
            lists = λ all is. g.met.D.MailFiles.lists fs all s is;
            finds = λ way what is. g.met.D.MailFiles.finds fs way what s is;
            reads = λ way number handle is. g.met.D.MailFiles.reads fs way number handle s is;
          }) file f there place c.args.earlier.now right passed))
          (known.5 s right),
    )

pub loop-file-preserved : goal.loop-file-preserved
loop-file-preserved g c =
    let fs = c.args.files.now in
    let files_now = g.D.MailFiles.files fs in
    let Passed = IsPassedOver g.D.File.Read.remaining (g.D.MailFiles.found c.args.files.now)
    (g.D.MailFiles.opened c.args.files.now) (g.D.MailFiles.told c.args.files.now) c.args.earlier.now in
    let IsSo = IsMeasured g.D.File.Read.remaining (g.D.MailFiles.found c.args.files.now)
    (g.D.MailFiles.opened c.args.files.now) (g.D.MailFiles.told c.args.files.now) c.args.earlier.now in
    let known = c.loop-file.invariant in
    let files = c.loop-file.listed.files.items in
    let before = c.loop-file.yielded in
    let file = c.in-Some.file in
    let new = c.of.result in
    let added : c.add.new.self.files.items ≡ files ++ new ∷ [] = c.in_ok-add.ensures.added in
    let is_base : base (listed_name new) ≡ base_of_file file =
    ap (λ (f : ListedFile). base (listed_name f)) c.of.ensures in
    let named : c.base-base.result.now ≡ base (listed_name new) = c.base-base.ensures ∙ sym is_base in
    let within = rw c.in-Some-2.is at c.in_ok-measured.ensures.within in
    let sized = ap (λ (f : ListedFile). f.size) c.of.ensures in
    let small : new.size ≤ max_size = omega (arith, within.1, sized) in
    let next : MayBeListed c.loop-file.listed.long_ids files c.in_ok-long_id.long_id (base (listed_name new)) = record {
      behind = subst (λ name. FollowsLast files name) named (c.if-not-is_behind.ensures.behind refl);
      is_key = subst (λ name. IsIdKey c.in_ok-long_id.long_id (id_of name)) (c.as_bytes.ensures.value ∙ named)
          c.in_ok-long_id.ensures;
      unseen = c.if-not-is_unseen.ensures.0 refl;
    } in
    let measured = measured_among g.D.File.Read.remaining (g.D.MailFiles.found c.args.files.now)
    (g.D.MailFiles.opened c.args.files.now) (g.D.MailFiles.told c.args.files.now) c.loop-file.counted.files.now
    c.args.earlier.now file _ known.2 (rw c.in-Some-2.is at c.in_ok-measured.ensures.some) in (
      c.in_ok-add.ensures.listed next (below_limit _ _ c.if-is_full.ensures.1) small known.0,
      subst (λ (all : List ListedFile). LastIsOf all (before ++ file ∷ [])) (sym added) (last_now files new before file is_base),
      λ f there. known.2 f (c.measure.ensures.rest f there),
      subst (λ (all : List ListedFile). All (IsAccountedFor Passed all) (before ++ file ∷ [])) (sym added)
          (All-push (IsAccountedFor Passed (files ++ new ∷ [])) before file (all_still Passed files new before known.3)
          (inl (now_listed files new (base_of_file file) is_base))),
      subst (λ (all : List ListedFile). All (ListsFound IsSo (before ++ file ∷ [])) all) (sym added)
          (All-push (ListsFound IsSo (before ++ file ∷ [])) files new (found_still IsSo before (file ∷ []) files known.4)
          (subst (λ (listed : ListedFile). ListsFound IsSo (before ++ file ∷ []) listed) (sym c.of.ensures) (record {
            file = file;
            there = Contains-push before file;
            folder = refl;
            name = refl;
            measured = measured;
          }))),
      λ s right. subst (λ (all : List ListedFile). ListsSo files_now (before ++ file ∷ []) all) (sym added)
          (ListsSo-more files_now before file files new (λ f there place.
          let so = measured_so g.D.File.Read.remaining (g.D.MailFiles.found fs) (g.D.MailFiles.opened fs) (g.D.MailFiles.told fs) files_now
          (record {
            whole = g.met.D.MailFiles.whole fs s;
            lists = λ all is. g.met.D.MailFiles.lists fs all s is;
            finds = λ way what is. g.met.D.MailFiles.finds fs way what s is;
            reads = λ way number handle is. g.met.D.MailFiles.reads fs way number handle s is;
          }) file f there place c.args.earlier.now _ right within.0 within.1 measured in
          let same_uid : id_of (base (listed_name new)) ≡ uid_in f = ap id_of is_base
          ∙ ap (λ (p : Folder × List ℕ). id_of (base p.1)) place in (
            so.0,
            entry_same new f (ap listed_place c.of.ensures ∙ place) (ap (λ (l : ListedFile). l.stamp) c.of.ensures ∙ so.1)
                (ap (λ (l : ListedFile). l.size) c.of.ensures ∙ so.2),
            λ had. next_id_new c.loop-file.listed.long_ids files c.in_ok-long_id.long_id (base (listed_name new)) known.0 next had.0
                (uid_in f) had.1 (had.2 ∙ sym same_uid),
          )) (known.5 s right)),
    )

pub returns-clause-whole : goal.returns-clause-whole
returns-clause-whole g c =
    let Passed = IsPassedOver g.D.File.Read.remaining (g.D.MailFiles.found c.args.files.now)
    (g.D.MailFiles.opened c.args.files.now) (g.D.MailFiles.told c.args.files.now) c.args.earlier.now in
    let it = c.into_iter-file-iterator in
    let gives = it.ensures.into_iter_gives in
    let all = YieldsList-end (YieldsList-from_vec c.args.found.items gives.0 (gives.1 ∙ c.args.found.ok.0)) c.loop-file.yielded
    c.loop-file.file-iterator c.loop-file.yielded_by c.next.result c.next.new.self c.in-None.is c.next.ensures.steps in
    subst (λ (files : List PlacedFile). All (IsAccountedFor Passed c.loop-file.listed.files.items) files)
    (sym (map-id c.loop-file.yielded) ∙ all.0) c.loop-file.invariant.3

pub returns-then-is_full-clause-found : goal.returns-then-is_full-clause-found
returns-then-is_full-clause-found g c =
    let IsSo = IsMeasured g.D.File.Read.remaining (g.D.MailFiles.found c.args.files.now)
    (g.D.MailFiles.opened c.args.files.now) (g.D.MailFiles.told c.args.files.now) c.args.earlier.now in
    let it = c.into_iter-file-iterator in
    found_among IsSo c.args.found.items it.result c.loop-file.yielded c.loop-file.file-iterator c.loop-file.listed.files.items
    it.ensures.into_iter_gives.0 c.loop-file.yielded_by c.loop-file.invariant.4

pub returns-clause-found : goal.returns-clause-found
returns-clause-found g c =
    let IsSo = IsMeasured g.D.File.Read.remaining (g.D.MailFiles.found c.args.files.now)
    (g.D.MailFiles.opened c.args.files.now) (g.D.MailFiles.told c.args.files.now) c.args.earlier.now in
    let it = c.into_iter-file-iterator in
    found_among IsSo c.args.found.items it.result c.loop-file.yielded c.loop-file.file-iterator c.loop-file.listed.files.items
    it.ensures.into_iter_gives.0 c.loop-file.yielded_by c.loop-file.invariant.4

pub returns-then-is_full-clause-chosen : goal.returns-then-is_full-clause-chosen
returns-then-is_full-clause-chosen g c = λ s all right.
    let it = c.into_iter-file-iterator in
    let known = c.loop-file.invariant in
    let files = c.loop-file.listed.files.items in
    let full : length files ≡ max_count = let few = known.0.messages.count in
    let most = c.if-is_full.ensures.0 refl in let ok = c.loop-file.listed.files.ok in omega (arith, few, most, ok) in
    chosen_full (g.D.MailFiles.files c.args.files.now) c.loop-file.yielded (into_iter_items c.loop-file.file-iterator) files full
    (ap (map folder_and_name) (sym (taken_front it.result c.loop-file.yielded c.loop-file.file-iterator c.loop-file.yielded_by)
    ∙ it.ensures.into_iter_gives.0) ∙ all) (known.5 s right)

pub returns-clause-chosen : goal.returns-clause-chosen
returns-clause-chosen g c = λ s all right.
    let it = c.into_iter-file-iterator in
    let gives = it.ensures.into_iter_gives in
    let known = c.loop-file.invariant in
    let every = YieldsList-end (YieldsList-from_vec c.args.found.items gives.0 (gives.1 ∙ c.args.found.ok.0)) c.loop-file.yielded
    c.loop-file.file-iterator c.loop-file.yielded_by c.next.result c.next.new.self c.in-None.is c.next.ensures.steps in
    chosen_all (g.D.MailFiles.files c.args.files.now) c.loop-file.yielded c.loop-file.listed.files.items known.0.messages.count
    (ap (map folder_and_name) (sym (map-id c.loop-file.yielded) ∙ every.0) ∙ all) (known.5 s right)
