use Rattle.std.proofs.Common.{inl, inr}
use Rattle.getmail_program.proofs.fetch.run.Goals as goal

pub returns-in-Err-clause-starts : goal.returns-in-Err-clause-starts
returns-in-Err-clause-starts g c =
    let (files, (home, ends)) = c.in-Err.ensures.err in (
      files,
      (
        home,
        elim ends [
          | inl none ↦ inl none
          | inr one ↦ inr (one.0, one.1, inl one.2)
        ],
      ),
    )

pub returns-in-Err-connect-clause-starts : goal.returns-in-Err-connect-clause-starts
returns-in-Err-connect-clause-starts g c =
    let (files, home, is) = c.in-Ok.ensures.ok in
    (files, (home, inr (c.in-Ok.ready.setup, is, inl (inr (c.in-Err-connect.failure, c.fail.ensures.status)))))

pub returns-clause-starts : goal.returns-clause-starts
returns-clause-starts g c =
    let (files, home, is) = c.in-Ok.ensures.ok in
    (files, (home, inr (c.in-Ok.ready.setup, is, inr c.fetch_setup.ensures.holds)))
