use Rattle.std.proofs.Common.{◌∙◌, ◌∷◌, codes}
use Rattle.getmail_setup.proofs.InPlaceLemmas.{is_between}
use Rattle.getmail_setup.specs.InPlace.{dashed, is_address}
use Rattle.getmail_setup.proofs.in_place.is_list_of.Goals as goal

pub returns-in-Some-before : goal.returns-in-Some-before
returns-in-Some-before c =
    let end = c.as_slice.ensures.value ∙ c.in_ok-end.ensures in
    let address = c.in-Some-before.address.now in
    is_between is_address (codes "oldmail-") c.args.name.now c.in-Some.rest.now address (45 ∷ dashed c.args.username.now) _ _
    c.in-Some.ensures c.in-Some-before.ensures end c.is_address.ensures
