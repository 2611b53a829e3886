use Rattle.std.proofs.Common.{refl, rules}
use Rattle.folder_drop.proofs.KnownLemmas.{knows_listed, knows_looked, lists_files}
use Rattle.folder_drop.proofs.maildir_drop.known_mail.KnownMail.list_messages.Goals as goal

pub returns-in_err-list_anew-clause-lists : goal.returns-in_err-list_anew-clause-lists
returns-in_err-list_anew-clause-lists g c = λ s.
    let old = c.args.self.now in
    let l = c.in_err-list_anew.ensures.lists s in (
      l.0,
      l.1,
      λ knows. (
        knows_looked g.D.File.Read.remaining _ _ _ _ old.listing old.earlier c.list_anew.new.earlier old.since old.reading l.1
            c.in_err-list_anew.ensures.stays.looks (l.2 knows.before).0 knows,
        (search rules),
      ),
    )

pub returns-in_err-entries-clause-lists : goal.returns-in_err-entries-clause-lists
returns-in_err-entries-clause-lists g c = λ s.
    let old = c.args.self.now in
    let l = c.in_ok-list_anew.ensures.lists s in (
      l.0,
      l.1,
      λ knows. (
        knows_looked g.D.File.Read.remaining _ _ _ _ old.listing old.earlier c.list_anew.new.earlier old.since old.reading l.1
            c.in_ok-list_anew.ensures.stays.looks (l.2 knows.before).0 knows,
        (search rules),
      ),
    )

pub returns-clause-lists : goal.returns-clause-lists
returns-clause-lists g c = λ s.
    let old = c.args.self.now in
    let listed = c.list_anew.new.earlier in
    let l = c.in_ok-list_anew.ensures.lists s in (
      l.0,
      l.1,
      λ knows. let is = l.2 knows.before in
          rw (c.replace.ensures.value, c.replace.ensures.after) (
            knows_listed g.D.File.Read.remaining _ _ _ _ old.listing old.earlier listed c.none.result old.since old.reading _ l.1
                is.0 is.1 (c.none.ensures.files, c.none.ensures.never) refl knows,
            lists_files _ listed.files c.in_ok-entries.entries is.1 c.in_ok-entries.ensures.names c.in_ok-entries.ensures.sizes,
          ),
    )
