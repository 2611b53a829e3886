use Rattle.std.proofs.{Common.arith, lemmas.Slice.Eq.bytes_eq-Decides}
use Rattle.mail_store.proofs.MaildirLemmas.{decode_of_legal}
use Rattle.mail_store.proofs.maildir.names.decode_id.Goals as goal

pub returns-else-eq-clause-none : goal.returns-else-eq-clause-none
returns-else-eq-clause-none c =
    grind (
      arith,
      decode_of_legal c.legal_ids_have_ranges.ensures,
      bytes_eq-Decides c.as_bytes.result.now c.args.digits.now,
    )
