use Rattle.std.proofs.Common.{◌∙◌, arith}
use Rattle.fetch_record.proofs.LineLemmas.{line_split, behind_id, number_behind}
use Rattle.fetch_record.proofs.line.read_row.Goals as goal

pub returns-in_err-uid-clause-none : goal.returns-in_err-uid-clause-none
returns-in_err-uid-clause-none c = rw c.from_residual.ensures
    (λ row behind is line. c.in_err-uid.ensures.none row.uid _ is.legal (line ∙ line_split row behind))

pub returns-in_err-first_seen-clause-none : goal.returns-in_err-first_seen-clause-none
returns-in_err-first_seen-clause-none c = rw c.from_residual-in_err-first_seen.ensures (λ row behind is line.
    c.in_err-first_seen.ensures.none row.first_seen _ is.fits
    (behind_id _ _ _ row.uid _ c.in_ok-uid.ensures.legal is.legal c.in_ok-uid.ensures.found (line ∙ line_split row behind)))

pub returns-in_err-delivered-clause-none : goal.returns-in_err-delivered-clause-none
returns-in_err-delivered-clause-none c = rw c.from_residual-in_err-delivered.ensures (λ row behind is line.
    c.in_err-delivered.ensures.none row.delivered behind
    (number_behind 32 _ _ _ row.first_seen _ (omega arith) c.in_ok-first_seen.ensures.fits is.fits c.in_ok-first_seen.ensures.found
    (behind_id _ _ _ row.uid _ c.in_ok-uid.ensures.legal is.legal c.in_ok-uid.ensures.found (line ∙ line_split row behind))).1)
