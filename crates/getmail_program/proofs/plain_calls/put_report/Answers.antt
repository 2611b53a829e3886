use Rattle.getmail_program.proofs.plain_calls.put_report.Goals as goal

pub returns-in-Ok : goal.returns-in-Ok
returns-in-Ok g c = rw (c.as_bytes.ensures.value, c.in-Ok.ensures) at c.put.ensures
