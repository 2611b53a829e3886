use Rattle.std.proofs.lemmas.Result.{err_from_is_err_and}
use Rattle.fetch_record.{
  specs.{RecordFile.{RowLine, IntentLine}, Rows.row_from, Lines.{open_seen, intent_seen}},
  proofs.ReadLemmas.{seen_behind, Reads-none, Reads-row, Reads-group, Reads-intent, Reads-fails, Reads-group_fails},
  proofs.row_map.RowMap.read_lines.Goals.{in-Row+in_ok-part-in-Row, in-Group+in_ok-part-in-Group, in-Opening+in_ok-take_intent-in-Opening},
}
use Rattle.fetch_record.proofs.row_map.RowMap.read_lines.Goals as goal

pub loop-line-init : goal.loop-line-init
loop-line-init g c = Reads-none c.in-Some.older c.args.bytes.now c.in-Some.lines.now c.in-Some.ensures.found
    c.args.self.now c.requires.empty c.requires.is_record

pub returns-in_err-part-in-Row-clause-err : goal.returns-in_err-part-in-Row-clause-err
returns-in_err-part-in-Row-clause-err g c =
    let p = err_from_is_err_and c.from_residual.result c.from_residual.ensures.1 in
    rw (p.1, p.2) (λ differs. Reads-fails c.loop-line.invariant c.in-Some-read_line.behind.now
    (RowLine (row_from c.in-Row.row.uid.now c.in-Row.row.state)) c.in_err-part-in-Row.field-0.0
    (rw c.in-Row.is at c.in-Some-read_line.ensures.is_line) (rw c.in-Row.is at c.in-Some-read_line.ensures.found)
    (λ n before. c.in_err-part-in-Row.ensures.err differs n before (open_seen c.loop-line.intent)))

pub returns-in_err-part-in-Group-clause-err : goal.returns-in_err-part-in-Group-clause-err
returns-in_err-part-in-Group-clause-err g c =
    let p = err_from_is_err_and c.from_residual-in_err-part-in-Group.result c.from_residual-in_err-part-in-Group.ensures.1 in
    rw (p.1, p.2) (λ differs.
    rw c.in_err-part-in-Group.ensures.err.1 (Reads-group_fails c.loop-line.invariant c.in-Some-read_line.behind.now
    c.in-Group.count (rw c.in-Group.is at c.in-Some-read_line.ensures.is_line) (rw c.in-Group.is at c.in-Some-read_line.ensures.found)
    c.in_err-part-in-Group.ensures.err.0))

pub returns-in_err-take_intent-in-Opening-clause-err : goal.returns-in_err-take_intent-in-Opening-clause-err
returns-in_err-take_intent-in-Opening-clause-err g c =
    let p = err_from_is_err_and c.from_residual-in_err-take_intent-in-Opening.result
    c.from_residual-in_err-take_intent-in-Opening.ensures.1 in
    rw (p.1, p.2) (λ differs.
    Reads-fails c.loop-line.invariant c.in-Some-read_line.behind.now (IntentLine (intent_seen c.in-Opening.opened))
    c.in_err-take_intent-in-Opening.field-0.0 (rw c.in-Opening.is at c.in-Some-read_line.ensures.is_line)
    (rw c.in-Opening.is at c.in-Some-read_line.ensures.found) c.in_err-take_intent-in-Opening.ensures.err)

pub loop-line-preserved : goal.loop-line-preserved
loop-line-preserved g c = elim c.match-line.branch [
  | in-Row+in_ok-part-in-Row w ↦
      let line = rw w.in-Row.is at c.in-Some-read_line.ensures.found in
      let is = rw w.in-Row.is at c.in-Some-read_line.ensures.is_line in
      let row = row_from w.in-Row.row.uid.now w.in-Row.row.state in
      let part_is = w.in_ok-part-in-Row.ensures.part in
      rw (
        c.behind_base-appended.ensures,
        w.self-is,
        w.part-is,
        w.intent-is,
        w.front-is,
        c.saturating_add-number.ensures,
        w.open_behind-intent.ensures,
        seen_behind w.in_ok-part-in-Row.part c.loop-line.intent,
        part_is,
      ) (Reads-row c.loop-line.invariant c.in-Some-read_line.behind.now row w.take_row.new.self is line
      (rw part_is at w.in_ok-part-in-Row.ensures.ok) w.in_ok-part-in-Row.ensures.is_record)
  | in-Group+in_ok-part-in-Group w ↦
      let line = rw w.in-Group.is at c.in-Some-read_line.ensures.found in
      let is = rw w.in-Group.is at c.in-Some-read_line.ensures.is_line in
      rw (
        c.behind_base-appended.ensures,
        w.self-is,
        w.part-is,
        w.intent-is,
        w.front-is,
        c.saturating_add-number.ensures,
        w.in_ok-part-in-Group.ensures.ok.1,
      ) (Reads-group c.loop-line.invariant c.in-Some-read_line.behind.now w.in-Group.count is line w.in_ok-part-in-Group.ensures.ok.0)
  | in-Opening+in_ok-take_intent-in-Opening w ↦
      let line = rw w.in-Opening.is at c.in-Some-read_line.ensures.found in
      let is = rw w.in-Opening.is at c.in-Some-read_line.ensures.is_line in
      rw (c.behind_base-appended.ensures, w.self-is, w.part-is, w.intent-is, w.front-is, c.saturating_add-number.ensures)
      (Reads-intent c.loop-line.invariant c.in-Some-read_line.behind.now (intent_seen w.in-Opening.opened) is line
      w.in_ok-take_intent-in-Opening.ensures.ok)
]
