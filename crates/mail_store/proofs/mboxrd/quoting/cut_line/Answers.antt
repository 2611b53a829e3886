use Rattle.std.proofs.{Common.{inr, refl, sym, arith, slice_index}, lemmas.{Bool.Decides.Decides-eqb, List.append-nil}}
use Rattle.mail_store.proofs.MboxLemmas.{cut_at, piece_alone, plain_all}
use Rattle.mail_store.proofs.mboxrd.quoting.cut_line.Goals as goal

pub returns-in-Some-clause-cuts : goal.returns-in-Some-clause-cuts
returns-in-Some-clause-cuts c =
    let text = c.args.text.now in
    let found = c.in-Some.ensures in
    rw (c.split_at.ensures.front, c.split_at.ensures.back) (cut_at text c.in-Some.place found.0.high
    (λ k below at. found.0.before k (omega arith) below ((Decides-eqb (slice_index text k) 10).1 at))
    ((Decides-eqb (slice_index text c.in-Some.place) 10).0 found.1))

pub returns-in-None-clause-cuts : goal.returns-in-None-clause-cuts
returns-in-None-clause-cuts c =
    let text = c.args.text.now in
    let plain = plain_all text (λ k inside at. c.in-None.ensures k (omega arith) inside ((Decides-eqb (slice_index text k) 10).1 at)) in
    record { lines = piece_alone text plain c.requires; whole = sym (append-nil text); ended = inr refl }
