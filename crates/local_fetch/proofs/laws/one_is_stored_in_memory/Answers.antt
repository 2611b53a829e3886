use Rattle.std.proofs.Common.{refl}
use Rattle.local_fetch.proofs.OneMessage.{one_is_stored}
use Rattle.local_fetch.proofs.laws.one_is_stored_in_memory.Goals as goal

pub returns : goal.returns
returns c = one_is_stored _ _ _ _ (λ d. refl) (λ d few. few) (λ f few. few) (λ d. tt) _ _ c.memory_can_be_opened.ensures.there
    c.memory_can_be_opened.ensures.none_odd c.memory_refuses_nothing.ensures c.good_fetches_store_all.ensures
    c.first_fetches_keep_mail.ensures
