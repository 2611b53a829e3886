use Rattle.getmail_program.proofs.errand.fetch_mail.Goals as goal

pub returns-clause-fetched : goal.returns-clause-fetched
returns-clause-fetched g c = c.fetch_account.ensures.fetched
