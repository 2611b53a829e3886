use Rattle.std.proofs.{
  Common.{rules, sym, ◌∙◌, bytes_eq, string_bytes},
  lemmas.Iterator.{YieldsList-from_slice, Search.any_from_yields_List},
}
use Rattle.mail_terms.proofs.ListLemmas.{any_map}
use Rattle.test_devices.proofs.MemoryMail.{among_has}
use Rattle.test_devices.proofs.stored_mail.is_one_of.Goals as goal

pub returns-clause-id : goal.returns-clause-id
returns-clause-id c =
    let text = c.args.text.now in
    any_from_yields_List (λ other. bytes_eq text (string_bytes other)) _ _ _ c.any.ensures.ran
    (YieldsList-from_slice c.args.texts.now cc) (λ x b q k. search rules)
    ∙ sym (any_map (bytes_eq text) string_bytes c.args.texts.now)

pub returns-clause-has : goal.returns-clause-has
returns-clause-has c =
    let text = c.args.text.now in
    rw (any_from_yields_List (λ other. bytes_eq text (string_bytes other)) _ _ _ c.any.ensures.ran
    (YieldsList-from_slice c.args.texts.now cc) (λ x b q k. search rules)) (among_has c.args.texts.now text)
