use Rattle.std.proofs.Common.{◌∙◌}
use Rattle.mail_terms.proofs.IdLemmas.{has_id_keys}
use Rattle.mail_terms.proofs.id_set.IdSet.has.Goals as goal

pub returns : goal.returns
returns c = rw (← c.in-Some.ensures.text, ← c.self.view_is) (c.contains.ensures ∙ has_id_keys c.in-Some.text.now c.self.inside.ids.keys)
