use Rattle.session_parts.proofs.MessagePreviewLemmas.{IsTold}
use Rattle.session_parts.proofs.message_preview.message_previews.Given as goal

abbrev pub invariant-loop-i : goal.invariant-loop-i
invariant-loop-i g l = IsTold l.terms.settings.now l.seen.rows l.terms.now l.steps l.listing l.held l.i l.told.items
