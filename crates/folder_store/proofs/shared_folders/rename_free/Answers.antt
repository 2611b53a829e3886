use Rattle.folder_store.specs.{Calls.{answered}, MailCalls.{PutsDraft}}
use Rattle.folder_store.proofs.Sharing.{did_on}
use Rattle.folder_store.proofs.shared_folders.rename_free.Goals as goal

pub returns-then-eq : goal.returns-then-eq
returns-then-eq g c = λ s.
    let done = c.rename.ensures s in
    let first = c.in-Err.ensures done.0 in (
      first.0,
      did_on (PutsDraft (g.S.Made.MadeHandle.made c.args.file.now) c.args.name.now (answered c.rename.result)) _ _ _ first.1 done.2,
    )
