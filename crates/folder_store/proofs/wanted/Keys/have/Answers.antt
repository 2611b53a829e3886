use Rattle.std.proofs.Common.{◌∙◌, sym}
use Rattle.mail_store.specs.FileName.{stem}
use Rattle.folder_store.proofs.Searching.{ids_found, ids_lack}
use Rattle.folder_store.proofs.wanted.Keys.have.Goals as goal

-- the stems of two ids differ: c.stems_differ, once the body calls mail_store's `stems_differ()`
pub returns-in-Some : goal.returns-in-Some
returns-in-Some c =
    let told = rw c.in-Some.is at c.in_ok-uid-in-Ids.ensures.some in
    let legal = rw c.in-Ids.is at c.requires.legal in
    c.has_octets.ensures ∙ rw (c.as_slice.ensures.value, c.as_slice-in-Some.ensures.value, c.in-Ids.is)
    (ids_found c.in-Ids.account.now c.in-Ids.ids.items c.in-Some.uid.items (stem c.args.name.now)
    (c.stems_differ.ensures c.in-Ids.account.now) legal told.0 told.1)

pub returns-in-None : goal.returns-in-None
returns-in-None c = rw c.in-Ids.is (sym (ids_lack c.in-Ids.account.now c.in-Ids.ids.items (stem c.args.name.now)
    (rw c.in-Ids.is at c.requires.legal) (rw c.in-None.is at c.in_ok-uid-in-Ids.ensures.none)))
