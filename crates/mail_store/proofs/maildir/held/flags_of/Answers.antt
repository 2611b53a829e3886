use Rattle.std.proofs.{Common.{[], arith}, lemmas.List.map_more}
use Rattle.hex.specs.Hex.{encode_lower}
use Rattle.mail_terms.specs.Listing.{Item}
use Rattle.mail_store.specs.Held.{has_text}
use Rattle.mail_store.proofs.maildir.held.flags_of.Goals as goal

pub loop-i-preserved : goal.loop-i-preserved
loop-i-preserved c =
    let none : Item = record { uid = []; size = 0 } in
    let more = map_more (λ (item : Item). has_text c.args.found.now (encode_lower item.uid)) c.args.listing.now
    c.loop-i.i none (omega (arith, c.loop-i-test.true, c.len-i-end.ensures.count)) in
    rw (more, c.in_ok-push.ensures.items, c.loop-i.invariant, c.in_ok-is_found.ensures, c.uid.ensures.value none)
