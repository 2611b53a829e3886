use Rattle.getmail_program.proofs.NoticingLemmas.{takes_both}
use Rattle.getmail_program.proofs.errand.tell_noticed.Goals as goal

pub returns : goal.returns
returns g c =
    takes_both _ _ _ _ _ _ c.tell_rests.ensures
    (takes_both _ _ _ _ _ _ c.tell_obstructions.ensures
    (takes_both _ _ _ _ _ _ c.tell_store_refusal.ensures
    (takes_both _ _ _ _ _ _ c.tell_unflushed.ensures c.tell_new_ids.ensures)))
