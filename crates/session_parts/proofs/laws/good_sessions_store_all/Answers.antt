use Rattle.session_parts.proofs.ServedLemmas.{store_all}
use Rattle.session_parts.proofs.laws.good_sessions_store_all.Goals as goal

pub returns : goal.returns
returns c = store_all c.cuts_have_causes.ensures c.conversations_are_paced.ensures c.bytes_have_one_meaning.ensures
    c.plans_fetch_wanted.ensures
