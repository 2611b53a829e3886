use Rattle.std.proofs.{Common.{map, sym, subst, [], ◌∷◌}, lemmas.List.{map-append}}
use Rattle.std.specs.Prelude.{string_bytes}
use Rattle.mail_terms.proofs.ErrLemmas.{is_err}
use Rattle.folder_store.specs.SharedCalls.{AddsNames, IsSame}
use Rattle.folder_store.proofs.Sharing.{adds_none, adds_then, did_none, did_on}
use Rattle.folder_store.proofs.shared_folders.add_names.Goals as goal

pub loop-name-init : goal.loop-name-init
loop-name-init g c = λ s. (
  s,
  did_none (g.S.SharedCalls.shared c.args.calls.now),
  adds_none (g.S.SharedCalls.shared c.args.calls.now).directories c.args.folder c.args.found.now,
)

pub loop-name-preserved : goal.loop-name-preserved
loop-name-preserved g c = λ s.
    let done = c.in_ok-add_name.ensures s in
    let so_far = c.loop-name.invariant done.0 in
    let old = g.S.SharedCalls.shared c.args.calls.now in
    let mid = g.S.SharedCalls.shared c.loop-name.calls in (
      so_far.0,
      did_on IsSame old mid (g.S.SharedCalls.shared c.add_name.new.calls) so_far.1 done.1,
      subst (λ names. AddsNames old.directories c.args.folder names c.args.found.now c.add_name.new.found)
          (sym (map-append string_bytes c.loop-name.yielded (c.in-Some.name ∷ [])))
          (adds_then c.args.folder old mid (map string_bytes c.loop-name.yielded) (string_bytes c.in-Some.name ∷ []) c.args.found.now
          c.loop-name.found c.add_name.new.found so_far.1 so_far.2 done.2),
    )

pub returns-in_err-add_name : goal.returns-in_err-add_name
returns-in_err-add_name g c = rw (is_err c.from_residual.result c.from_residual.ensures.1) (λ s.
    let done = c.in_err-add_name.ensures s in
    let so_far = c.loop-name.invariant done.0 in (
      so_far.0,
      did_on IsSame (g.S.SharedCalls.shared c.args.calls.now) (g.S.SharedCalls.shared c.loop-name.calls)
          (g.S.SharedCalls.shared c.add_name.new.calls) so_far.1 done.1,
      tt,
    ))
