use Rattle.mail_store.specs.Devices.{stored_in}
use Rattle.session_parts.proofs.SceneLemmas.{read_fault, and_so}
use Rattle.session_parts.proofs.readiness.read.Goals as goal

pub returns-clause-reads : goal.returns-clause-reads
returns-clause-reads g c = λ kept. and_so (c.in_ok-bytes.ensures.gets kept)
    (λ sound gets. read_fault (stored_in g.F.FlatFile c.args.file.now) (stored_in g.F.FlatFile c.load.new.file)
    c.reread.new.self c.in-Err.fault c.line_of.result gets.1
    (λ other. rw (c.deref.ensures.value, gets.0) at (c.in-Err.ensures.fault other)) c.line_of.ensures)
