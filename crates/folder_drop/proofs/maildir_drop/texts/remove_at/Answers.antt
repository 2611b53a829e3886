use Rattle.std.{
  proofs.Common.{◌≡◌, ◌⊎◌, List, arith, false, inl, inr, refl, rules, subst, sym, ⊎_elim},
  specs.{List.All, Prelude.IfNone},
}
use Rattle.folder_drop.specs.{
  declared.{listed_file.ListedFile.ListedFile, maildir_names.PlacedFile.PlacedFile},
  MaildirMail.is_namesake,
  MailFiles.DropFile,
  Removal.{RemovesMessage, TakesCopies, WereSeenSince},
}
use Rattle.folder_drop.proofs.RemovalLemmas.{by_those}
use Rattle.folder_drop.proofs.maildir_drop.texts.remove_at.Goals as goal

pub returns-clause-removes : goal.returns-clause-removes
returns-clause-removes g c =
    let there = c.in-Some.ensures.lookup.3 in
    let now = c.in_ok-told.ensures.removes.0 in
    let told = g.D.MailFiles.told in
    let were = λ (these : List PlacedFile). told c.args.files.now these ⊎ told now these in
    let since = WereSeenSince were c.args.seen.now in (
      there.0,
      (
        now,
        λ d. subst (λ (listed : ListedFile). RemovesMessage g.D.File.Read.remaining (g.D.MailFiles.found now)
            (g.D.MailFiles.opened now) (g.D.MailFiles.removed c.remove.new.files) since listed c.in_ok-told.told) (there.1 d)
            (by_those _ _ _ _ _ since _ _ (λ from seen. ⊎_elim (λ e. subst since (sym e)
            (⊎_elim inl (λ listed. inr (inl listed)) c.in_ok-look_for_removals.ensures.seen)) (λ listed. inr (inr listed)) seen)
            c.in_ok-told.ensures.removes.1),
      ),
    )

pub returns-clause-beyond : goal.returns-clause-beyond
returns-clause-beyond g c = λ beyond. absurd (omega (arith, c.in-Some.ensures.lookup.3.0, beyond))

pub returns-in_err-told-clause-beyond : goal.returns-in_err-told-clause-beyond
returns-in_err-told-clause-beyond g c = λ beyond. absurd (omega (arith, c.in-Some.ensures.lookup.3.0, beyond))

pub returns-clause-takes : goal.returns-clause-takes
returns-clause-takes g c = λ s.
    let took = c.in_ok-told.ensures.takes s in (
      took.0,
      λ since. let t = took.1 (c.in_ok-look_for_removals.ensures.takes took.0 since).1 in (
        λ _. inr t.0,
        λ d. (
          subst (λ (listed : ListedFile). TakesCopies listed (g.D.MailFiles.files c.args.files.now)
              (g.D.MailFiles.files c.remove.new.files)) (c.in-Some.ensures.lookup.3.1 d) t.1.0,
          subst (λ (listed : ListedFile). IfNone c.in_ok-told.told (All (λ (file : DropFile). is_namesake listed file ≡ false)
              (g.D.MailFiles.files c.remove.new.files))) (c.in-Some.ensures.lookup.3.1 d) t.1.1,
        ),
      ),
    )

pub returns-in_err-told-clause-takes : goal.returns-in_err-told-clause-takes
returns-in_err-told-clause-takes g c = λ s.
    let took = c.in_err-told.ensures.takes s in (
      took.0,
      λ since. let t = took.1 (c.in_ok-look_for_removals.ensures.takes took.0 since).1 in (
        λ _. inr t.0,
        λ d. (
          subst (λ (listed : ListedFile). TakesCopies listed (g.D.MailFiles.files c.args.files.now)
              (g.D.MailFiles.files c.remove.new.files)) (c.in-Some.ensures.lookup.3.1 d) t.1.0,
          (search rules),
        ),
      ),
    )

pub returns-in_err-look_for_removals-clause-takes : goal.returns-in_err-look_for_removals-clause-takes
returns-in_err-look_for_removals-clause-takes g c = λ s. (
  s,
  λ since. ((c.in_err-look_for_removals.ensures.takes s since).0, λ d. (inl refl, (search rules))),
)

pub returns-in_default-clause-takes : goal.returns-in_default-clause-takes
returns-in_default-clause-takes g c = λ s. (s, λ since. (since, λ d. (inl refl, (search rules))))
