use Rattle.mail_terms.proofs.IdLemmas.{utf8_id}
use Rattle.getmail_setup.proofs.listed.Listed.large_in.Goals as goal

pub key_of-key-requires : goal.key_of-key-requires
key_of-key-requires c = utf8_id _ c.in-Ok.ensures.legal.1
