use Rattle.std.proofs.Common.{arith}
use Rattle.std.proofs.lemmas.Result.{err_from_is_err_and}
use Rattle.std.specs.String.{string_bytes}
use Rattle.safe_path.proofs.WalkLemmas.{came_to, from_start, is_safe, where_broken}
use Rattle.safe_path.specs.Walk.{spot_at}
use Rattle.safe_path.proofs.walk.check_path.Goals as goal

pub returns-in_err-next-clause-err : goal.returns-in_err-next-clause-err
returns-in_err-next-clause-err g c =
    let names = string_bytes c.in_ok-names.names in
    let p = err_from_is_err_and c.from_residual-in_err-next.result c.from_residual-in_err-next.ensures.1 in
    rw (p.1, p.2) (where_broken g.L.Looks c.args.looks.now c.args.named.now names 0 (spot_at c.in_ok-place.place names)
    c.in_err-next.field-0.0 c.in_ok-names.ensures.ok
    (from_start g.L.Looks c.args.looks.now names c.in_ok-place.place c.in_ok-place.ensures.ok)
    (rw c.as_str.ensures.value at c.in_err-next.ensures.err))

pub loop-links-init : goal.loop-links-init
loop-links-init g c =
    let names = string_bytes c.in_ok-names.names in
    came_to g.L.Looks c.args.looks.now c.args.named.now.kind names 0 (spot_at c.in_ok-place.place names) c.in_ok-next.next
    (from_start g.L.Looks c.args.looks.now names c.in_ok-place.place c.in_ok-place.ensures.ok)
    (rw c.as_str.ensures.value at c.in_ok-next.ensures.ok)

pub returns-in_default-clause-ok : goal.returns-in_default-clause-ok
returns-in_default-clause-ok g c = is_safe g.L.Looks c.args.looks.now c.args.named.now (string_bytes c.in_ok-names.names)
    c.loop-links._links c.in_ok-names.ensures.ok (omega (arith, c.loop-links-test.true))
    (rw c.in_default.is at c.loop-links.invariant)

pub returns-in_err-next-2-clause-err : goal.returns-in_err-next-2-clause-err
returns-in_err-next-2-clause-err g c =
    let names = string_bytes c.in_ok-names.names in
    let (last, reached, link, reaches) = rw c.in-Some.is at c.loop-links.invariant in
    let p = err_from_is_err_and c.from_residual-in_err-next-2.result c.from_residual-in_err-next-2.ensures.1 in
    rw (p.1, p.2) (where_broken g.L.Looks c.args.looks.now c.args.named.now names _
    (spot_at c.in-Some.field-0.place (string_bytes c.in-Some.field-0.names)) c.in_err-next-2.field-0.0 c.in_ok-names.ensures.ok
    reaches (rw c.as_str-in-loop-links.ensures.value at c.in_err-next-2.ensures.err))

pub loop-links-preserved : goal.loop-links-preserved
loop-links-preserved g c =
    let names = string_bytes c.in_ok-names.names in
    let (last, reached, link, reaches) = rw c.in-Some.is at c.loop-links.invariant in
    came_to g.L.Looks c.args.looks.now c.args.named.now.kind names _
    (spot_at c.in-Some.field-0.place (string_bytes c.in-Some.field-0.names)) c.in_ok-next-2.next reaches
    (rw c.as_str-in-loop-links.ensures.value at c.in_ok-next-2.ensures.ok)

pub returns-in-None-clause-ok : goal.returns-in-None-clause-ok
returns-in-None-clause-ok g c = is_safe g.L.Looks c.args.looks.now c.args.named.now (string_bytes c.in_ok-names.names)
    c.loop-links._links c.in_ok-names.ensures.ok (omega (arith, c.loop-links.auto._links-end))
    (rw c.in-None.is at c.loop-links.invariant)
