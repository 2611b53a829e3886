use Rattle.std.proofs.Common.{◌-◌, arith, length}
use Rattle.rc_file.{specs.RowReading.rows_in, proofs.RowLemmas.{file_rows-key, rows_in-push, last_section-read}}
use Rattle.rc_file.proofs.row.add_key.Goals as goal

pub returns : goal.returns
returns c =
    let n = c.args.number in
    let section = c.in-Some.last.now.section.now in
    let placed = last_section-read c.deref.result.now (length c.deref.result.now - 1) c.in-Some.last.now
    c.in-Some.ensures.item.1 (omega (arith, c.in-Some.ensures.item.3.0)) in
    let pushed = rows_in-push c.args.rows.now.items c.push.new.self.items _ c.in_ok-push.ensures.items in
    λ lines. rw (pushed, c.in_ok-to_ascii_lowercase.ensures.ok, c.in_ok-from_str.ensures.ok)
    (file_rows-key (rows_in c.args.rows.now.items) n section c.args.word.now c.args.value.now lines (rw (← c.deref.ensures.value) placed))
