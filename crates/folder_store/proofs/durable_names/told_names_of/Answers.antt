use Rattle.std.proofs.Common.{Ok, inl}
use Rattle.folder_store.{
  specs.declared.mail_folders.Sought.TheVariants.All,
  proofs.MailCalls.{learns_same, lists_learns, one_unflushed, told_one},
}
use Rattle.mail_terms.proofs.ErrLemmas.{is_err}
use Rattle.folder_store.proofs.durable_names.told_names_of.Goals as goal

pub returns-in_err-names-clause-tells : goal.returns-in_err-names-clause-tells
returns-in_err-names-clause-tells g c =
    rw (is_err c.from_residual.result c.from_residual.ensures.1) (λ s.
    let (held, (mid, moved, lacks)) = c.in_err-names.ensures.lists s in
    (held, one_unflushed _ _ _ c.args.folder c.in_err-names.field-0.0 (learns_same _) (mid, moved, inl lacks)))

pub returns-in_err-flush_names-clause-tells : goal.returns-in_err-flush_names-clause-tells
returns-in_err-flush_names-clause-tells g c =
    rw (is_err c.from_residual-in_err-flush_names.result c.from_residual-in_err-flush_names.ensures.1) (λ s.
    let n = c.in_err-flush_names.ensures.flushes s in
    let t = c.in_ok-names.ensures.lists n.0 in (
      t.0,
      one_unflushed _ _ _ c.args.folder c.in_err-flush_names.field-0.0
          (lists_learns c.args.folder All _ _ (Ok c.in_ok-names.names) t.1) n.1,
    ))

pub returns-clause-tells : goal.returns-clause-tells
returns-clause-tells g c = λ s.
    let n = c.in_ok-flush_names.ensures.flushes s in
    let t = c.in_ok-names.ensures.lists n.0 in
    (t.0, told_one c.args.folder _ _ _ c.in_ok-names.names c.in_ok-flush_names.field-0 t.1 n.1)
