use Rattle.std.proofs.{
  Common.{◌≡◌, ap, ◌∙◌, take, drop, length},
  lemmas.{Bool.Decides.Decides-eqb, List.take_min, Slice.Eq.starts_is},
}
use Rattle.test_devices.proofs.torn.begins_with.Goals as goal

pub returns : goal.returns
returns c =
    let front : take c.min.result c.args.content.now ≡ take c.args.count c.args.content.now =
    ap (λ n. take n c.args.content.now) c.min.ensures ∙ take_min c.args.count c.args.content.now in
    let is = rw front at (starts_is Decides-eqb c.args.left.now (take c.min.result c.args.content.now) _ c.starts_with.ensures.value) in
    (λ begins. (drop (length (take c.args.count c.args.content.now)) c.args.left.now, is.0 begins), λ part. is.1 part.0 part.1)
