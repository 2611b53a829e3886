use Rattle.std.proofs.{Common.arith, lemmas.Str.{IsUtf8-from_ascii, Ascii.IsAscii-from_all}}
use Rattle.mail_store.proofs.account.AccountId.as_str.Goals as goal

pub unwrap-requires : goal.unwrap-requires
unwrap-requires c =
    let text = c.self.inside.text in
    let is_utf8 = IsUtf8-from_ascii text (IsAscii-from_all text (λ k d inside. grind (arith, c.self.invariant.1 k d inside))) in
    grind arith
