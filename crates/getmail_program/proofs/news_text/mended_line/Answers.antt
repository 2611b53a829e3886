use Rattle.std.proofs.Common.{◌∙◌, ℕ, List, ap}
use Rattle.getmail_program.specs.News.{account_line, mended_words}
use Rattle.getmail_program.proofs.news_text.mended_line.Goals as goal

pub returns : goal.returns
returns c = record {
  date = _;
  is_date = c.in_ok-date.ensures;
  is = c.in_ok-account_line.ensures ∙ ap (λ (words : List ℕ). account_line c.args.account.now words)
      (c.as_str-2.ensures.value ∙ c.in_ok-words.ensures ∙ ap (λ (date : List ℕ). mended_words date) c.as_str.ensures.value);
}
