use Rattle.std.proofs.{Common.{◌∙◌, ap, ap₂}, lemmas.Result.IfOk-weaker}
use Rattle.session_parts.specs.{
  Report.most_bytes,
  Telling.{counts_text, deleted_ahead, fetched_in, octets_ahead, size_text},
}
use Rattle.session_parts.proofs.telling.counts.Goals as goal

pub returns : goal.returns
returns c =
    IfOk-weaker c.format.result _ _ (λ text is. is
    ∙ ap₂ (λ fetched size. counts_text c.args.preview.now.total fetched size c.deleted_in-deleted.result)
    (c.fetched_in-fetched.ensures ∙ ap fetched_in c.deref.ensures.value)
    (c.in_ok-size.ensures ∙ ap size_text (c.octets_in.ensures
    ∙ ap (λ told. most_bytes (octets_ahead told)) c.deref-3.ensures.value))
    ∙ ap (counts_text c.args.preview.now.total _ _) (c.deleted_in-deleted.ensures ∙ ap deleted_ahead c.deref-2.ensures.value))
    c.format.ensures.ok
