use Rattle.std.proofs.Common.{◌≡◌, ◌∙◌, string_bytes, ap, length, lit<, arith, rules, append_assoc, length-append, ◌∷◌}
use Rattle.hex.{specs.Hex.{encode_lower, lower_digits}, proofs.HexLemmas.length-encode_with}
use Rattle.mail_store.specs.FileName.{stem_of}
use Rattle.mail_store.proofs.maildir.names.file_stem.Goals as goal

pub returns-clause-short : goal.returns-clause-short
returns-clause-short c =
    let ascii = c.in_ok-push.ensures.ascii (lit< tt) in
    let named : string_bytes c.push_str-2.new.self ≡ stem_of c.args.account.now c.args.uid.now = search (rules, append_assoc) in
    rw named (omega (
      arith,
      length-append c.args.account.now (46 ∷ encode_lower c.args.uid.now),
      length-encode_with lower_digits c.args.uid.now,
      c.as_str.ensures.digits.0,
      (c.legal_ids_have_ranges.ensures c.args.uid.now c.requires).short,
    ))

pub returns-clause-room : goal.returns-clause-room
returns-clause-room c = omega (
  arith,
  ap length c.as_str.ensures.text,
  c.as_str.ensures.digits.0,
  ap length (c.as_str-2.ensures.value ∙ c.in_ok-digits.ensures),
  length-encode_with lower_digits c.args.uid.now,
  (c.legal_ids_have_ranges.ensures c.args.uid.now c.requires).short,
  c.in_ok-text.ensures,
  c.in_ok-push_str.ensures,
  c.in_ok-push.ensures,
  c.in_ok-push_str-2.ensures,
)
