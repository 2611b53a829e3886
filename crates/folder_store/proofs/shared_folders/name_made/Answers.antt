use Rattle.std.proofs.Common.{sym, ◌∙◌}
use Rattle.folder_store.specs.{Calls.{answered}, MailCalls.{PutsDraft}}
use Rattle.folder_store.proofs.Sharing.{did_on, links_none}
use Rattle.folder_store.proofs.shared_folders.name_made.Goals as goal

pub returns-then-has_no_links : goal.returns-then-has_no_links
returns-then-has_no_links g c = λ s.
    let done = c.rename_free.ensures s in
    let first = c.in-Err.ensures done.0 in
    let none = sym c.has_no_links.ensures ∙ c.if-has_no_links.true in (
      first.0,
      first.1,
      did_on (PutsDraft (g.S.Made.MadeHandle.made c.args.file.now) c.args.name.now (answered c.rename_free.result)) _ _ _
          (links_none (Unit {0}) _ _ c.in-Err.fault _ _ none first.2) done.1,
    )
