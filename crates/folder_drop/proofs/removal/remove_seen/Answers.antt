use Rattle.std.proofs.Common.{ap, inl, inr, refl, rules, subst, sym, ⊎_elim}
use Rattle.folder_drop.specs.{declared.removal.Namesake.Namesake, Removal.{AreNamesakes, BearsOne, HasStamp, RemovesWith}}
use Rattle.folder_drop.proofs.{RemovalLemmas.{contains_at, holds_at}, TakenLemmas.{takes_copies, told_instead, told_with}}
use Rattle.folder_drop.proofs.removal.remove_seen.Goals as goal

pub returns-in_err-told-2-clause-takes : goal.returns-in_err-told-2-clause-takes
returns-in_err-told-2-clause-takes g c s =
    let files = g.D.MailFiles.files c.args.files.now in
    let all = c.as_slice-all.result.now in
    let lacks = c.remove_with.ensures.takes.lacks s in
    let is = (contains_at (HasStamp c.args.listed.now.stamp) all c.in-Some.place c.index-all-place.result c.in-Some.ensures.found.0
    c.index-all-place.is c.in-Some.ensures.found.1).1 in
    let are = subst (AreNamesakes (g.D.MailFiles.found c.args.files.now) c.args.listed.now c.args.seen.now)
    (sym c.as_slice-all.ensures.value) c.in_ok-found.ensures in (
      lacks.0,
      λ from have sees. (
        takes_copies (g.D.MailFiles.found c.args.files.now) files c.args.listed.now from c.args.seen.now all
            (g.met.D.MailFiles.whole _ lacks.0) (λ way what found. g.met.D.MailFiles.finds _ way what lacks.0 found) are have
            g.D.File.Read.remaining (g.D.MailFiles.opened c.args.files.now)
            (λ way number file opened. g.met.D.MailFiles.reads _ way number file lacks.0 opened) sees c.index-all-place.result
            (c.in-Some.place, c.in-Some.ensures.found.0, sym c.index-all-place.is) is _ lacks.1
            (⊎_elim (λ same. inl (ap g.D.MailFiles.files same)) inr c.remove_with.ensures.none),
        (search rules),
      ),
    )

pub returns-in_default-clause-takes : goal.returns-in_default-clause-takes
returns-in_default-clause-takes g c s =
    let files = g.D.MailFiles.files c.args.files.now in
    let are = subst (AreNamesakes (g.D.MailFiles.found c.args.files.now) c.args.listed.now c.args.seen.now)
    (sym c.as_slice-all.ensures.value) c.in_ok-found.ensures in (
      s,
      λ from have sees. (
        inl refl,
        told_instead (g.D.MailFiles.found c.args.files.now) files c.args.listed.now from c.args.seen.now c.as_slice-all.result.now
            (g.met.D.MailFiles.whole _ s) (λ way what found. g.met.D.MailFiles.finds _ way what s found) are have sees
            c.in_ok-told.told c.in_ok-told.ensures,
      ),
    )

pub returns-clause-removes : goal.returns-clause-removes
returns-clause-removes g c =
    let files = c.as_slice-all.result.now in
    record {
      files = files;
      are = subst (AreNamesakes (g.D.MailFiles.found c.args.files.now) c.args.listed.now c.args.seen.now) (sym c.as_slice-all.ensures.value)
          c.in_ok-found.ensures;
      gone = inl (
        c.in-Some.place,
        c.in-Some.ensures.found.0,
        c.in-Some.ensures.found.1,
        holds_at (λ (own : Namesake). RemovesWith g.D.File.Read.remaining
            (g.D.MailFiles.opened c.args.files.now) (g.D.MailFiles.removed c.remove_with.new.files) own files c.in_ok-told-2.told)
            files c.in-Some.place c.index-all-place.result c.in-Some.ensures.found.0 c.index-all-place.is c.in_ok-told-2.ensures.removes,
      );
    }

pub returns-clause-takes : goal.returns-clause-takes
returns-clause-takes g c s =
    let files = g.D.MailFiles.files c.args.files.now in
    let all = c.as_slice-all.result.now in
    let lacks = c.remove_with.ensures.takes.lacks s in
    let is = (contains_at (HasStamp c.args.listed.now.stamp) all c.in-Some.place c.index-all-place.result c.in-Some.ensures.found.0
    c.index-all-place.is c.in-Some.ensures.found.1).1 in
    let are = subst (AreNamesakes (g.D.MailFiles.found c.args.files.now) c.args.listed.now c.args.seen.now)
    (sym c.as_slice-all.ensures.value) c.in_ok-found.ensures in (
      lacks.0,
      λ from have sees. (
        takes_copies (g.D.MailFiles.found c.args.files.now) files c.args.listed.now from c.args.seen.now all
            (g.met.D.MailFiles.whole _ lacks.0) (λ way what found. g.met.D.MailFiles.finds _ way what lacks.0 found) are have
            g.D.File.Read.remaining (g.D.MailFiles.opened c.args.files.now)
            (λ way number file opened. g.met.D.MailFiles.reads _ way number file lacks.0 opened) sees c.index-all-place.result
            (c.in-Some.place, c.in-Some.ensures.found.0, sym c.index-all-place.is) is _ lacks.1
            (⊎_elim (λ same. inl (ap g.D.MailFiles.files same)) inr c.remove_with.ensures.none),
        told_with (g.D.MailFiles.found c.args.files.now) files c.args.listed.now from c.args.seen.now all
            (g.met.D.MailFiles.whole _ lacks.0) (λ way what found. g.met.D.MailFiles.finds _ way what lacks.0 found) are have
            g.D.File.Read.remaining (g.D.MailFiles.opened c.args.files.now) (g.D.MailFiles.removed c.remove_with.new.files)
            c.index-all-place.result _ sees lacks.1 (λ way number went. g.met.D.MailFiles.unlinks _ way number s went)
            c.in_ok-told-2.told c.in_ok-told-2.ensures.removes,
      ),
    )
