use Rattle.std.proofs.Common.{ap, map}
use Rattle.std.specs.Prelude.{string_bytes}
use Rattle.mail_terms.proofs.ErrLemmas.{is_err}
use Rattle.folder_store.specs.SharedCalls.{IsSame}
use Rattle.folder_store.proofs.Sharing.{did_on, tells_both}
use Rattle.folder_store.proofs.shared_folders.look_up.Goals as goal

pub returns-in_err-add_names-2 : goal.returns-in_err-add_names-2
returns-in_err-add_names-2 g c =
    rw (is_err c.from_residual-in_err-add_names-2.result c.from_residual-in_err-add_names-2.ensures.1) (λ s.
    let cur = c.in_err-add_names-2.ensures s in
    let new = c.in_ok-add_names.ensures cur.0 in
    let did = did_on IsSame (g.S.SharedCalls.shared c.args.calls.now) (g.S.SharedCalls.shared c.add_names.new.calls)
    (g.S.SharedCalls.shared c.add_names-2.new.calls) new.1 cur.1 in
    (new.0, (did.0, (did.1.0, did.1.1, (did.1.2, tt)))))

pub returns : goal.returns
returns g c = λ s.
    let cur = c.in_ok-add_names-2.ensures s in
    let new = c.in_ok-add_names.ensures cur.0 in (
      new.0,
      tells_both (g.S.SharedCalls.shared c.args.calls.now) (g.S.SharedCalls.shared c.add_names.new.calls)
          (g.S.SharedCalls.shared c.add_names-2.new.calls) (map string_bytes c.args.in_new.items) (map string_bytes c.args.in_cur.items)
          (record { files = c.new.result; odd = c.new-2.result }) c.add_names.new.found c.add_names-2.new.found
          (ap (map string_bytes) c.new.ensures.items) (ap (map string_bytes) c.new-2.ensures.items) new.1 cur.1 new.2 cur.2,
    )
