use Rattle.std.proofs.{Common.{arith}, lemmas.{Cmp.nat_list_eq_equiv, Map.Text.is_eq-slice_cmp}}
use Rattle.folder_store.proofs.flush_pass.add_text.Goals as goal

pub returns : goal.returns
returns c = λ q.
    let text = c.args.text.now in
    let added = c.in_ok-insert.ensures.updates.0 (record c.args.text { now = q }) in
    rw (← nat_list_eq_equiv.symm text q, ← is_eq-slice_cmp text q, added) (grind arith)
