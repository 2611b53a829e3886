use Rattle.std.proofs.Common.{◌∙◌, sym, subst, true≢false}
use Rattle.mail_terms.specs.UniqueId.{IsLegalId}
use Rattle.fetch_record.proofs.LineLemmas.{field_id, no_field}
use Rattle.fetch_record.proofs.field.id_before.Goals as goal

pub returns-in_err-uid-clause-none : goal.returns-in_err-uid-clause-none
returns-in_err-uid-clause-none c = rw c.from_residual.ensures (λ uid rest legal is. no_field 32 _ _ _ c.in_err-uid.ensures.none is)

pub returns-then-not-is_legal_id-clause-none : goal.returns-then-not-is_legal_id-clause-none
returns-then-not-is_legal_id-clause-none c = λ uid rest legal is.
    let same = field_id _ _ _ uid rest c.in_ok-uid.ensures.found c.in_ok-uid.ensures.first legal is in
    true≢false (sym (subst IsLegalId (sym same) legal) ∙ sym c.is_legal_id.ensures ∙ c.if-not-is_legal_id.true)
