use Rattle.std.proofs.Common.{◌≤◌, [], ap, arith, length, sym, take_all, ◌∙◌}
use Rattle.mail_terms.specs.Listing.{Item}
use Rattle.mail_store.{specs.Held.has_text, proofs.MaildirLemmas.{length-sought, sought_more}}
use Rattle.mail_store.proofs.maildir.held.flags_sought.Goals as goal

pub loop-i-preserved : goal.loop-i-preserved
loop-i-preserved c =
    let none : Item = record { uid = []; size = 0 } in
    c.in_ok-push.ensures.items ∙ rw (c.loop-i.invariant, c.in_ok-is_asked.ensures, c.uid.ensures.value none)
    (sym (sought_more (has_text c.args.found.now) c.args.listing.now c.args.flags.now c.loop-i.i none _
    (omega (arith, c.loop-i-test.true, c.len-i-end.ensures.count)) c.requires))

pub returns-clause-length : goal.returns-clause-length
returns-clause-length c =
    let past : length c.args.listing.now ≤ c.loop-i.i = omega (arith, c.loop-i-test.false, c.len-i-end.ensures.count) in
    let past_flags : length c.args.flags.now ≤ c.loop-i.i = omega (arith, c.requires, past) in
    c.loop-i.sought.ok.0 ∙ ap length c.loop-i.invariant
    ∙ rw (take_all c.loop-i.i c.args.listing.now past, take_all c.loop-i.i c.args.flags.now past_flags)
    (length-sought (has_text c.args.found.now) c.args.listing.now c.args.flags.now c.requires)
