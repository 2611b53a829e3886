use Rattle.std.{proofs.Common.{◌∙◌, codes}, specs.Str.Parse.{ParsesUnsigned, ExplainsUnsignedError, HasUnsignedDigitsIfOk}}
use Rattle.clap.{specs.Words.{found_of, one_of, rows_of}, proofs.WalkLemmas.one_text-rows}
use Rattle.popd_program.proofs.WordsLemmas.{numbers}
use Rattle.popd_program.proofs.words.words_of.Goals as goal

pub returns : goal.returns
returns c =
    let found = found_of c.args.matches.now in
    let text_is = one_text-rows found (codes "connections") in
    record {
      listen = c.in_ok-text.ensures;
      connections = numbers (λ bs r. ParsesUnsigned 32 10 bs r × ExplainsUnsignedError 10 bs r × HasUnsignedDigitsIfOk bs r)
          (one_of (codes "connections") (rows_of found)) c.get_one.result c.unwrap_or.result (λ u x read. read.0)
          (λ none. c.get_one.ensures.none (text_is ∙ none)) (λ text is. c.get_one.ensures.value text (text_is ∙ is)) c.unwrap_or.ensures;
      rehearse = c.is_given.ensures;
      verbose = c.is_given-2.ensures;
      trace = c.is_given-3.ensures;
      user = c.in_ok-text-2.ensures;
      passfile = c.in_ok-text-3.ensures;
      maildir = c.in_ok-text-4.ensures;
      more = c.in_ok-words_after.ensures;
    }
