use Rattle.std.proofs.Common.{◌≡◌, ◌++◌, Some, inl}
use Rattle.std.proofs.lemmas.{Bool.Decides.Decides-eqb, Slice.Eq.strip_prefix_is}
use Rattle.getmail_setup.proofs.OutputLemmas.{puts_both}
use Rattle.getmail_setup.proofs.output.Output.put_rest.Goals as goal

pub returns-in-Some : goal.returns-in-Some
returns-in-Some g c = λ start so.
    let split : c.args.text.now ≡ c.args.written.now ++ c.in-Some.rest.now
    = strip_prefix_is Decides-eqb c.args.text.now c.args.written.now (Some c.in-Some.rest) c.in-Some.ensures.cases in
    inl (rw split (puts_both g.W.Write.contents start _ _ _ _ so c.put.ensures))
