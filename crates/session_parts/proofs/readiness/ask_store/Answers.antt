use Rattle.std.proofs.Common.{subst}
use Rattle.session_parts.specs.{Durable.is_trusted, Target.no_maildir}
use Rattle.mail_store.proofs.MaildirLemmas.{none_taken}
use Rattle.session_parts.proofs.readiness.ask_store.Goals as goal

pub returns-in-Mboxrd-clause-durable : goal.returns-in-Mboxrd-clause-durable
returns-in-Mboxrd-clause-durable g c = λ d trust. c.ask_mbox.ensures.durable d (subst
    (λ store. is_trusted g.F.FlatFile store) c.in-Mboxrd.is trust)

pub returns-in-Mboxrd-clause-finds : goal.returns-in-Mboxrd-clause-finds
returns-in-Mboxrd-clause-finds g c = λ d. let asks = c.ask_mbox.ensures.asks d in
    rw c.in-Mboxrd.is (asks.0, (no_maildir, none_taken no_maildir, asks.1))
