use Rattle.std.proofs.Common.{◌∙◌, ◌++◌, ◌∷◌, [], sym, ap, refl, List, ℕ, append-nil}
use Rattle.fetch_record.specs.{Record.Row, RecordFile.record_row_line, Rows.row_from}
use Rattle.fetch_record.proofs.line.row_group.Goals as goal

pub returns : goal.returns
returns c =
    let row : Row = row_from c.args.uid.now c.args.state in
    c.group.ensures (row ∷ []) refl (append-nil (record_row_line row) ∙ sym (c.in_ok-write_line.ensures
    ∙ ap (λ (xs : List ℕ). xs ++ record_row_line row) c.new-line.ensures.items))
