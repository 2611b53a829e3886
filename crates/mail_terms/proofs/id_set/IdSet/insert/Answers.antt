use Rattle.std.proofs.Common.{◌∙◌, ap, not}
use Rattle.mail_terms.proofs.IdLemmas.{has_id_keys, has_id_more}
use Rattle.mail_terms.proofs.id_set.IdSet.insert.Goals as goal

pub returns-clause-added : goal.returns-clause-added
returns-clause-added c = rw (← c.in-Some.ensures.text, ← c.self.view_is) (c.in_ok-insert.ensures.added
    ∙ ap not (has_id_keys c.in-Some.text.now c.self.inside.ids.keys))

pub returns-clause-ids : goal.returns-clause-ids
returns-clause-ids c = λ id. rw (← c.in-Some.ensures.text)
    (has_id_more id c.in-Some.text.now c.self.inside.ids.keys c.insert.new.self.keys c.args.self.now c.self.view_is
    (c.in_ok-insert.ensures.updates.0 (record c.in-Some.text { now = id })))
