use Rattle.std.{proofs.Common.{◌∙◌, List, ap, map, subst, sym}, specs.String.string_bytes}
use Rattle.clap.specs.Words.{App, Row, fault_of, is_simple_and_free}
use Rattle.getmail_setup.{specs.CommandLine.AsksFor, proofs.WordsLemmas.{getmail_is_free, getmail_kind, getmail_rows}}
use Rattle.getmail_setup.proofs.words.read_words.Goals as goal

pub returns-in_ok-words_of-in-Ok-clause-faults : goal.returns-in_ok-words_of-in-Ok-clause-faults
returns-in_ok-words_of-in-Ok-clause-faults c =
    ap (λ (app : App). fault_of app (map string_bytes c.args.words.now)) (sym c.in_ok-command.ensures)
    ∙ c.in-Ok.ensures.kinds (ap is_simple_and_free c.in_ok-command.ensures ∙ getmail_is_free)

pub returns-in_ok-words_of-in-Ok-clause-asks : goal.returns-in_ok-words_of-in-Ok-clause-asks
returns-in_ok-words_of-in-Ok-clause-asks c =
    subst (λ (rows : List Row). AsksFor rows c.in_ok-words_of-in-Ok.field-0)
    (getmail_rows _ _ c.in-Ok.matches c.in_ok-command.ensures c.in-Ok.ensures.matches) c.in_ok-words_of-in-Ok.ensures

pub returns-in-Err-clause-faults : goal.returns-in-Err-clause-faults
returns-in-Err-clause-faults c = getmail_kind _ _ c.in-Err.error c.in_ok-command.ensures c.in-Err.ensures.kinds
