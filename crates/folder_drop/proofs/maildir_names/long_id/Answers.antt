use Rattle.std.proofs.{Common.{◌∙◌, arith, sym}, lemmas.Bool.false≢true}
use Rattle.folder_drop.proofs.{
  MaildirLemmas.long_unless,
  maildir_names.long_id.Goals.else-base-ne-DIGEST_LENGTH-via-then-base-ne-DIGEST_LENGTH+else-is_legal_id,
  maildir_names.long_id.Goals.else-base-ne-DIGEST_LENGTH-via-else-base-ne-DIGEST_LENGTH,
}
use Rattle.folder_drop.proofs.maildir_names.long_id.Goals as goal

pub returns : goal.returns
returns c = (
  c.in_ok-unique_id.ensures.value,
  long_unless c.args.base.now (λ legal. elim c.else-base-ne-DIGEST_LENGTH.branch [
    | else-base-ne-DIGEST_LENGTH-via-then-base-ne-DIGEST_LENGTH+else-is_legal_id w ↦ absurd
        (false≢true (sym w.if-is_legal_id.false ∙ w.is_legal_id.ensures ∙ legal))
    | else-base-ne-DIGEST_LENGTH-via-else-base-ne-DIGEST_LENGTH w ↦ let same = w.if-base-ne-DIGEST_LENGTH.false in omega (arith, same)
  ]),
)
