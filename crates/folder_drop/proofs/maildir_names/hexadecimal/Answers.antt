use Rattle.std.{proofs.Common.{◌≡◌, ◌∙◌, ap, arith, rules}, specs.List.list_all}
use Rattle.hex.specs.Hex.{encode_lower}
use Rattle.mail_terms.specs.UniqueId.{is_id_byte}
use Rattle.folder_drop.proofs.DigestLemmas.{visible_hex}
use Rattle.folder_drop.proofs.maildir_names.hexadecimal.Goals as goal

pub returns-clause-visible : goal.returns-clause-visible
returns-clause-visible c =
    let seen = visible_hex c.args.digest.now (λ i. let f = c.type_inv.digest i in omega (arith, f)) in
    let value : c.encode_to_slice.new.output ≡ encode_lower c.args.digest.now = search rules in
    ap (list_all is_id_byte) value ∙ seen
