use Rattle.std.proofs.lemmas.Bool.{false≢true}
use Rattle.getmail_program.proofs.NewsLemmas.{is_date, is_number}
use Rattle.getmail_program.proofs.news_text.date_of.Goals as goal

pub returns-in_ok-fmt_http_date-in-Ok : goal.returns-in_ok-fmt_http_date-in-Ok
returns-in_ok-fmt_http_date-in-Ok c = is_date c.args.second _ c.in-Ok.date c.in-Ok.ensures.value c.in_ok-fmt_http_date-in-Ok.ensures

pub returns-in_ok-number_text-in-Err : goal.returns-in_ok-number_text-in-Err
returns-in_ok-number_text-in-Err c = is_number c.args.second _ (λ before. false≢true (c.in-Err.ensures.succeeds.1 before))
    c.in_ok-number_text-in-Err.ensures
