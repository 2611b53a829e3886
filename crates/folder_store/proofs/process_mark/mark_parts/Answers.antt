use Rattle.std.proofs.{Common.{◌++◌, ◌∷◌, None, Some, arith}, lemmas.Str.Pattern.strip_prefix_char}
use Rattle.folder_store.proofs.Marking.{mark_is_split}
use Rattle.folder_store.proofs.process_mark.mark_parts.Goals as goal

pub returns-in-Some : goal.returns-in-Some
returns-in-Some c = mark_is_split c.args.mark.now c.in-Some.rest.now c.split_once.result
    (strip_prefix_char 80 c.args.mark.now (Some c.in-Some.rest) c.in-Some.ensures.cases (omega arith)) c.split_once.ensures.cases

pub returns-in-None : goal.returns-in-None
returns-in-None c = λ id random whole. strip_prefix_char 80 c.args.mark.now None c.in-None.ensures.cases (omega arith)
    (id ++ 82 ∷ random) whole
