use Rattle.std.proofs.Common.{◌∙◌, ap, map, sym, string_bytes}
use Rattle.clap.specs.Words.{App, fault_of, is_simple_and_free}
use Rattle.popd_program.proofs.WordsLemmas.{popd_kind, popd_is_free, popd_rows}
use Rattle.popd_program.proofs.words.read_words.Goals as goal

pub returns-in_ok-words_of-in-Ok-clause-faults : goal.returns-in_ok-words_of-in-Ok-clause-faults
returns-in_ok-words_of-in-Ok-clause-faults c =
    ap (λ (app : App). fault_of app (map string_bytes c.args.words.now)) (sym c.in_ok-command.ensures)
    ∙ c.in-Ok.ensures.kinds (ap is_simple_and_free c.in_ok-command.ensures ∙ popd_is_free)

pub returns-in_ok-words_of-in-Ok-clause-asks : goal.returns-in_ok-words_of-in-Ok-clause-asks
returns-in_ok-words_of-in-Ok-clause-asks c =
    rw (popd_rows _ _ c.in-Ok.matches c.in_ok-command.ensures c.in-Ok.ensures.matches) at c.in_ok-words_of-in-Ok.ensures

pub returns-in-Err-clause-faults : goal.returns-in-Err-clause-faults
returns-in-Err-clause-faults c = popd_kind _ _ c.in-Err.error c.in_ok-command.ensures c.in-Err.ensures.kinds
