use Rattle.std.proofs.Common.{◌≡◌, ◌∙◌, true, refl, sym}
use Rattle.pop3_server.specs.ServerMachine.{is_open}
use Rattle.popd_program.proofs.visit.serve_account.Goals as goal

pub returns-clause-quit : goal.returns-clause-quit
returns-clause-quit g c = λ s.
    let did = c.serve_and_note-served.ensures.served s in
    let opened : is_open c.into_server-server.result.state ≡ true = rw c.into_server-server.ensures refl in (
      did.0,
      did.1,
      λ some. c.only_quit_closes.ensures _ _ _ _ _ did.2 opened (sym c.is_open-is_open.ensures ∙ c.quit_of-quit.ensures.some some),
    )

pub returns-clause-left : goal.returns-clause-left
returns-clause-left g c = λ s.
    let did = c.serve_and_note-served.ensures.served s in
    (did.0, did.1, (_, rw c.into_server-server.ensures at did.2, sym c.into_drop-maildir.ensures))
