use Rattle.std.proofs.Common.{◌∙◌, ap, codes, map, not, refl}
use Rattle.mail_terms.specs.Credential.{is_credential}
use Rattle.popd_program.specs.{Texts.{no_folder, words_of_warning}, Warnings.is_open_to_others}
use Rattle.popd_program.proofs.WarningLemmas.{all_told}
use Rattle.popd_program.proofs.warning.warnings_of.Goals as goal

pub returns : goal.returns
returns c =
    let maildir = c.as_str-maildir.ensures.value in
    all_told _ _ _ _ _ _ _ _ _ _ _ _ _ _ _ _ _ _ _ _ _ _ _ (ap (map words_of_warning) c.new-warnings.ensures.items)
    c.in_ok-add_if.ensures c.in_ok-add_if-2.ensures c.in_ok-add_if-3.ensures c.in_ok-add_if-4.ensures c.in_ok-add_if-5.ensures
    (ap not (c.is_credential-no_user.ensures ∙ ap is_credential c.as_slice.ensures.value))
    (ap not (c.is_credential-no_password.ensures ∙ ap is_credential c.as_slice-2.ensures.value))
    (c.is_open_to_others-is_open.ensures ∙ ap is_open_to_others c.unwrap_or.ensures) refl refl
    (ap (λ m. no_folder m (codes "new")) maildir) (ap (λ m. no_folder m (codes "cur")) maildir)
