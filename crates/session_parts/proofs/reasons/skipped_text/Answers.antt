use Rattle.session_parts.proofs.reasons.skipped_text.Goals as goal

pub returns : goal.returns
returns c = rw c.in-Some.is (rw c.skip_text-reason.ensures at c.format-2.ensures.ok)
