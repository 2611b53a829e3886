use Rattle.fetch_record.proofs.LineLemmas.{field_number, no_field}
use Rattle.fetch_record.proofs.field.number_before.Goals as goal

pub returns-in_err-field-clause-none : goal.returns-in_err-field-clause-none
returns-in_err-field-clause-none c = rw c.from_residual.ensures
    (λ number rest fits is. no_field c.args.separator _ _ _ c.in_err-field.ensures.none is)

pub returns-in_err-number-clause-none : goal.returns-in_err-number-clause-none
returns-in_err-number-clause-none c = rw c.from_residual-in_err-number.ensures (λ number rest fits is.
    c.in_err-number.ensures.none number fits (field_number c.args.separator _ _ _ number rest c.requires fits
    c.in_ok-field.ensures.found c.in_ok-field.ensures.first is))
