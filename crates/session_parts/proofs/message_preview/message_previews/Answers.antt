use Rattle.std.proofs.Common.{◌<◌, length, arith, refl}
use Rattle.session_parts.proofs.{ReadyLemmas.empty_item, MessagePreviewLemmas.{told_more, told_all}}
use Rattle.session_parts.proofs.message_preview.message_previews.Goals as goal

pub loop-i-preserved : goal.loop-i-preserved
loop-i-preserved g c =
    let within : c.loop-i.i < length c.args.listing.now = omega (arith, c.loop-i-test.true, c.len-i-end.ensures.count) in
    rw c.in_ok-push.ensures.items (told_more _ _ _ _ _ _ _ _ _ c.loop-i.invariant within c.requires.all_steps
    c.requires.all_flags (rw (c.due_of.ensures, c.size.ensures empty_item, c.uid.ensures.value empty_item) refl))

pub returns : goal.returns
returns g c =
    told_all _ _ _ _ _ _ _ _ c.loop-i.invariant (omega (arith, c.loop-i-test.false, c.len-i-end.ensures.count, c.requires.all_steps))
