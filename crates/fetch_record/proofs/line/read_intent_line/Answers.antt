use Rattle.std.proofs.Common.{arith, [], ◌∷◌}
use Rattle.fetch_record.proofs.LineLemmas.{stripped, behind_intent_sign, behind_id, number_behind}
use Rattle.fetch_record.proofs.line.read_intent_line.Goals as goal

pub returns-in_err-uid-clause-none : goal.returns-in_err-uid-clause-none
returns-in_err-uid-clause-none c = rw c.from_residual.ensures (λ intent behind is e. c.in_err-uid.ensures.none intent.uid _ is.legal
    (behind_intent_sign _ _ intent behind (stripped (33 ∷ 32 ∷ []) c.args.bytes.now c.in-Some.line c.in-Some.ensures.cases) e))

pub returns-in_err-start-clause-none : goal.returns-in_err-start-clause-none
returns-in_err-start-clause-none c = rw c.from_residual-in_err-start.ensures (λ intent behind is e.
    let line = behind_intent_sign _ _ intent behind (stripped (33 ∷ 32 ∷ []) c.args.bytes.now c.in-Some.line c.in-Some.ensures.cases) e in
    c.in_err-start.ensures.none intent.start _ is.start (behind_id _ _ _ intent.uid _ c.in_ok-uid.ensures.legal is.legal
    c.in_ok-uid.ensures.found line))

pub returns-in_err-len-clause-none : goal.returns-in_err-len-clause-none
returns-in_err-len-clause-none c = rw c.from_residual-in_err-len.ensures (λ intent behind is e.
    let line = behind_intent_sign _ _ intent behind (stripped (33 ∷ 32 ∷ []) c.args.bytes.now c.in-Some.line c.in-Some.ensures.cases) e in
    let rest = behind_id _ _ _ intent.uid _ c.in_ok-uid.ensures.legal is.legal c.in_ok-uid.ensures.found line in
    c.in_err-len.ensures.none intent.len behind is.len
    (number_behind 32 _ _ _ intent.start _ (omega arith) c.in_ok-start.ensures.fits is.start c.in_ok-start.ensures.found rest).1)
