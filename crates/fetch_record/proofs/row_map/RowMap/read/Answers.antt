use Rattle.std.proofs.lemmas.Result.{err_from_is_err_and}
use Rattle.fetch_record.{specs.Lines.open_seen, proofs.ReadLemmas.{rows_again, no_fault_again}}
use Rattle.fetch_record.proofs.row_map.RowMap.read.Goals as goal

pub returns-in_err-read_lines-in-Open-clause-err : goal.returns-in_err-read_lines-in-Open-clause-err
returns-in_err-read_lines-in-Open-clause-err g c =
    let p = err_from_is_err_and c.from_residual-in_err-read_lines-in-Open.result c.from_residual-in_err-read_lines-in-Open.ensures.1 in
    rw (p.1, p.2) (λ differs. absurd (no_fault_again c.args.bytes.now c.in_ok-lines.lines.0.older c.in-Open.front
    (open_seen c.in_ok-lines.lines.0.intent) c.read_lines.new.self c.in_err-read_lines-in-Open.field-0.0
    (rw c.in-Open.is at c.in_ok-lines.ensures.ok) (c.in_err-read_lines-in-Open.ensures.err differs)))

pub returns-in_ok-read_lines-in-Open-clause-ok : goal.returns-in_ok-read_lines-in-Open-clause-ok
returns-in_ok-read_lines-in-Open-clause-ok g c =
    rows_again c.args.bytes.now c.in_ok-lines.lines.0.older c.in_ok-read_lines-in-Open.field-0.0.older c.in-Open.front
    (open_seen c.in_ok-lines.lines.0.intent)
    (open_seen c.in_ok-read_lines-in-Open.field-0.0.intent) c.read_lines.new.self c.in_ok-read_lines-in-Open.field-0.1
    c.read_lines-in-Open.new.self (rw c.in-Open.is at c.in_ok-lines.ensures.ok) c.in_ok-read_lines-in-Open.ensures.ok
