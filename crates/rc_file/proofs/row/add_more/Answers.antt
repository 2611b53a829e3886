use Rattle.std.proofs.Common.{arith, vec_len, ◌-◌, refl}
use Rattle.rc_file.proofs.RowLemmas.{more_taken}
use Rattle.rc_file.proofs.row.add_more.Goals as goal

pub returns-in-Some : goal.returns-in-Some
returns-in-Some c =
    more_taken c.args.rows.now.items (vec_len c.args.rows.now - 1) c.in-Some.row.now c.add_text.new.self c.args.number
    c.args.text.now c.add_text.result
    c.in-Some.ensures.value (omega (arith, c.args.rows.now.ok.0, c.in-Some.ensures.variant.0 refl)) c.add_text.ensures
