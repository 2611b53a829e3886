use Rattle.std.proofs.{
  Common.{◌∙◌, map, sym, subst, [], ◌∷◌},
  lemmas.{List.{map-append, map-id, Elements.All-push}, Iterator.{Adapters.YieldsList-from_vec, Consumers.YieldsList-end}},
}
use Rattle.std.specs.{List.All, Prelude.string_bytes}
use Rattle.folder_store.specs.Sweep.{IsDealtWith}
use Rattle.folder_store.proofs.sweep.sweep_names.Goals as goal

pub loop-name-preserved : goal.loop-name-preserved
loop-name-preserved g c =
    let Is = IsDealtWith (g.F.SweptFolder.front c.args.folder.now) c.args.now (g.F.SweptFolder.told c.args.folder.now)
    (g.F.SweptFolder.removes c.args.folder.now) in
    subst (All Is) (sym (map-append string_bytes c.loop-name.yielded (c.in-Some.name ∷ [])))
    (All-push Is (map string_bytes c.loop-name.yielded) (string_bytes c.in-Some.name) c.loop-name.invariant
    (subst Is c.as_str.ensures.value c.sweep_name.ensures))

pub returns : goal.returns
returns g c =
    let Is = IsDealtWith (g.F.SweptFolder.front c.args.folder.now) c.args.now (g.F.SweptFolder.told c.args.folder.now)
    (g.F.SweptFolder.removes c.args.folder.now) in
    let (rest, count, _, _) = c.into_iter-name-iterator.ensures.into_iter_gives in
    let (all, _) = YieldsList-end (YieldsList-from_vec c.args.names.items rest (count ∙ c.args.names.ok.0)) c.loop-name.yielded
    c.loop-name.name-iterator c.loop-name.yielded_by c.next.result c.next.new.self c.in-None.is c.next.ensures.steps in
    subst (λ names. All Is (map string_bytes names)) (sym (map-id c.loop-name.yielded) ∙ all) c.loop-name.invariant
