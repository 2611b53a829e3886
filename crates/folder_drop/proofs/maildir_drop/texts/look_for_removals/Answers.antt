use Rattle.std.{
  proofs.{Common.{◌≡◌, ◌∙◌, arith, inr, rules, subst, sym, true, ⊎_elim}, lemmas.{Bool.false≢true, Grind.common_steps}},
  specs.Prelude.is_some,
}
use Rattle.folder_drop.specs.{Removal.SeesAll, SeenFiles.those_seen}
use Rattle.folder_drop.proofs.{SlotLemmas.{slots_after, slots_removed}, TakenLemmas.sees_told}
use Rattle.folder_drop.proofs.maildir_drop.texts.look_for_removals.Goals as goal

pub returns-then-begin_removals-clause-takes : goal.returns-then-begin_removals-clause-takes
returns-then-begin_removals-clause-takes g c s since =
    let files = g.D.MailFiles.files c.args.files.now in
    let sees : SeesAll files (those_seen c.renew.new.self.files) = subst (λ seen. SeesAll files (those_seen seen))
    (sym c.renew.ensures.files)
    (sees_told files c.in_ok-list.field-0.items (g.met.D.MailFiles.lists _ _ s c.in_ok-list.ensures.told)) in
    (λ _. inr sees, sees)

pub returns-clause-takes : goal.returns-clause-takes
returns-clause-takes g c s since =
    let files = g.D.MailFiles.files c.args.files.now in
    let was : c.args.seen.now.are_removed ≡ true = first_of (search rules, grind (arith, common_steps)) in
    let same : c.begin_removals.new.self.files ≡ c.args.seen.now.files = first_of (search rules, grind (arith, common_steps)) in
    let some : is_some c.begin_removals.new.self.files ≡ true = first_of (search rules, grind (arith, common_steps)) in
    let sees : SeesAll files (those_seen c.begin_removals.new.self.files) =
    ⊎_elim (λ none. absurd (false≢true (subst (λ seen. is_some seen ≡ true) (same ∙ none) some)))
    (λ sees. subst (λ seen. SeesAll files (those_seen seen)) (sym same) sees) (since was) in
    (λ _. inr sees, sees)
