use Rattle.std.proofs.Common.{arith, ◌∙◌, ◌∷◌, [], inr, sym, ap, refl}
use Rattle.fetch_record.{specs.{RecordFile.written, Intents.intent_in}, proofs.RowLemmas.{mark_is_written, IsGroup-mark, now_delivered}}
use Rattle.fetch_record.proofs.seen.Seen.mark_rows.Goals as goal

pub returns-clause-group : goal.returns-clause-group
returns-clause-group g c =
    rw (← c.self.view_is, c.set_delivered.ensures.rows) (c.in_ok-group.ensures ∙ ap written
    (sym (mark_is_written c.args.uid.now c.self.inside.rows c.in-Some.state c.state.ensures.is_record
    (sym c.in-Some.ensures.value) (intent_in c.self.inside.intent) (grind (arith, c.has_mark.ensures, c.if-has_mark.false)))))

pub returns-clause-updates : goal.returns-clause-updates
returns-clause-updates g c =
    let mark = IsGroup-mark c.args.uid.now c.self.inside.rows c.in-Some.state c.state.ensures.is_record (sym c.in-Some.ensures.value) in
    rw (← c.self.view_is) (inr (
      now_delivered c.args.uid.now c.in-Some.state ∷ [],
      mark.0,
      c.in_ok-group.ensures,
      c.set_delivered.ensures.rows ∙ sym mark.1,
      refl,
    ))
