use Rattle.std.proofs.Common.{ℕ, List, [], ◌∷◌, ◌++◌, ◌∙◌, ap}
use Rattle.mail_terms.specs.MaildirName.{base}
use Rattle.mail_store.proofs.MaildirLemmas.{base_base, base_marked}
use Rattle.test_devices.proofs.stored_mail.name_for.Goals as goal

pub returns-then-is_new : goal.returns-then-is_new
returns-then-is_new c = ap base (c.in_ok-text.ensures.ok ∙ c.base.ensures) ∙ base_base c.args.name.now

pub returns : goal.returns
returns c =
    let marks = 50 ∷ 44 ∷ 83 ∷ [] in
    ap base (c.in_ok-push_str.ensures.bytes ∙ ap (λ (xs : List ℕ). xs ++ 58 ∷ marks) (c.in_ok-text.ensures.ok ∙ c.base.ensures))
    ∙ base_marked (base c.args.name.now) marks ∙ base_base c.args.name.now
