use Rattle.std.proofs.{Common.{◌≡◌, ◌+◌, ap, ◌∙◌, arith, []}, lemmas.List.drop_all}
use Rattle.pop3_server.{
  specs.{declared.text_part.TextBody.TextBody, TextBody.still},
  proofs.{TextAnswerLemmas.{begins_on, begins_end, reads_none, reads_part}, TextBodyLemmas.{none_belongs, still_none}},
}
use Rattle.pop3_server.proofs.text_part.TextBody.put_part.Goals as goal

pub returns-then-is_whole-clause-goes_on : goal.returns-then-is_whole-clause-goes_on
returns-then-is_whole-clause-goes_on g c = λ asked old sent next. begins_end _ _ asked old _ _ c.args.self next sent _ _ (reads_none _ _ _)
    (λ s. let place = c.requires.place s in (place.0, place.1, still_none c.args.self _ (c.is_whole.ensures c.if-is_whole.true _)))
    c.in_ok-end.ensures.body

pub returns-then-n-eq0-clause-goes_on : goal.returns-then-n-eq0-clause-goes_on
returns-then-n-eq0-clause-goes_on g c = λ asked old sent next.
    let x = c.args.self in
    let none : c.in_ok-n.n ≡ 0 = omega (arith, c.if-n-eq0.true) in
    begins_end _ _ asked old _ _ x next sent _ _
    (reads_part _ _ _ _ _ _ _ _ c.in_ok-n.ensures.tally c.in_ok-n.ensures.removes_none c.in_ok-n.ensures.gives)
    (λ s. let now = (c.in_ok-n.ensures.gives s).1.1 in (
      now.0,
      now.1,
      ap (still x) (drop_all x.start now.0.text (now.3 none)) ∙ still_none x [] (none_belongs x.top),
    )) c.in_ok-end-2.ensures.body

pub returns-clause-goes_on : goal.returns-clause-goes_on
returns-clause-goes_on g c = λ asked old sent next.
    let others = c.take-octets.ensures.others in
    let line : c.take-octets.new.self.stuffer.in_line ≡ c.args.self.stuffer.in_line = ap (λ (b : TextBody). b.stuffer.in_line) others in
    begins_on _ _ asked old _ _ c.args.self _ next c.in_ok-n.n sent _ _ c.part.new.piece c.take-octets.result.now
    c.in_ok-n.ensures.within (ap (λ (b : TextBody). b.place) others)
    (ap (λ (b : TextBody). b.start + c.in_ok-n.n) others) c.take-octets.ensures.belong (rw line at c.in_ok-put.ensures.in_line)
    (reads_part _ _ _ _ _ _ _ _ c.in_ok-n.ensures.tally c.in_ok-n.ensures.removes_none c.in_ok-n.ensures.gives)
    c.in_ok-n.ensures.gives (rw line at c.in_ok-put.ensures.body)
