use Rattle.std.proofs.Common.{List, inr, refl, subst, sym}
use Rattle.folder_drop.specs.{
  declared.{folders_look.FoldersLook.FoldersLook, listed_file.ListedFile.ListedFile},
  FoldersLook.IsUnchanged,
  Listing.FileListing,
  MaildirMail.{AreRight, IsListing, WasListed},
}
use Rattle.folder_drop.proofs.DropLemmas.{still_listed, still_right, still_was}
use Rattle.folder_drop.proofs.maildir_drop.listing.list_anew.Goals as goal

pub returns-in-Err-clause-lists : goal.returns-in-Err-clause-lists
returns-in-Err-clause-lists g c = λ s.
    let before = c.look.ensures.looks s in
    (before.0, before.1.same, λ was. (still_was _ _ c.args.earlier.now c.look.ensures.stays.looks was, tt))

pub returns-then-is_unchanged_at-clause-lists : goal.returns-then-is_unchanged_at-clause-lists
returns-then-is_unchanged_at-clause-lists g c = λ s.
    let before = c.look.ensures.looks s in
    let files = c.look.new.self in
    let now = rw c.in-Ok.is at before.1.now in (
      before.0,
      before.1.same,
      λ was. let still = still_was _ _ c.args.earlier.now c.look.ensures.stays.looks was in (
        still,
        still_listed (g.D.MailFiles.files files) (g.D.MailFiles.looked files) c.args.earlier.now c.in-Ok.look
            (λ earlier later was now. g.met.D.MailFiles.rests files earlier later was now s) now
            (subst (λ (l : FoldersLook). IsUnchanged l c.in-Ok.look) c.look-2.ensures (c.if-is_unchanged_at.ensures.0 refl)) still,
      ),
    )

pub returns-in-Err-list_now-clause-lists : goal.returns-in-Err-list_now-clause-lists
returns-in-Err-list_now-clause-lists g c = λ s.
    let before = c.look.ensures.looks s in
    (before.0, before.1.same, λ was. (still_was _ _ c.args.earlier.now c.look.ensures.stays.looks was, tt))

pub returns-clause-lists : goal.returns-clause-lists
returns-clause-lists g c = λ s.
    let before = c.look.ensures.looks s in
    let files = c.look.new.self in
    let now = rw c.in-Ok.is at before.1.now in (
      before.0,
      before.1.same,
      λ was.
          let still = still_was _ _ c.args.earlier.now c.look.ensures.stays.looks was in
          let right = still_right (g.D.MailFiles.files files) (g.D.MailFiles.looked files) c.args.earlier.now
          (λ look was f then. g.met.D.MailFiles.keeps files look was f then s) still in
          let lists : IsListing (g.D.MailFiles.files files) c.in-Ok-list_now.listed.files.items = c.in-Ok-list_now.ensures.lists s
          (subst (λ (l : List ListedFile). AreRight (g.D.MailFiles.files files) l) (sym c.files.ensures.files) right) in
          subst (λ (l : FileListing). WasListed (g.D.MailFiles.looked files) l × IsListing (g.D.MailFiles.files files) l.files)
          (sym c.into_listing.ensures) (inr (g.D.MailFiles.files files, now, lists), lists),
    )
