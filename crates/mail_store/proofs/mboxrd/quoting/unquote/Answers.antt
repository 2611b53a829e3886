use Rattle.std.proofs.{Common.{ap, [], drop, ◌∙◌, sym}, lemmas.List.{take_rest, append-nil, drop-append-le}}
use Rattle.mail_store.{specs.Mboxrd.unquoted, proofs.MboxLemmas.copies_changed}
use Rattle.mail_store.proofs.mboxrd.quoting.unquote.Goals as goal

pub loop-rest-preserved-in_ok-extend_from_slice : goal.loop-rest-preserved-in_ok-extend_from_slice
loop-rest-preserved-in_ok-extend_from_slice c =
    let line = c.cut_line.result.0.now in
    let cut = c.cut_line.ensures.cuts in
    let is = c.is_quoted.ensures.quoted c.if-is_quoted.true in
    copies_changed unquoted _ _ _ _ _ _ [] (drop 1 line) _ _ c.loop-rest.invariant cut is.1
    (c.in_ok-extend_from_slice.ensures.items ∙ sym (append-nil _))
    (take_rest c.loop-rest.rest.now 1 ∙ ap (drop 1) cut.whole ∙ drop-append-le 1 line c.cut_line.result.1.now is.0)
