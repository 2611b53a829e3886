-- One warning after another.
use Rattle.std.proofs.{
  Common.{◌≡◌, ◌∙◌, ◌+◌, ◌++◌, ◌<◌, ℕ, suc, List, [], Option, ap, arith, get_or, length, subst, sym, take},
  Math.Seq.take-suc,
  lemmas.List.flat_map_more,
}
use Rattle.rc_file.specs.declared.warning.Warning.{Warning}
use Rattle.getmail_setup.{
  specs.{Output.Puts, Warnings.{warned_line, warnings_text}, declared.output.Output.Output},
  proofs.OutputLemmas.puts_both,
}

warnings_more : (warnings : List Warning) (i : ℕ) (d : Warning) → i < length warnings
    → warnings_text (take i warnings) ++ warned_line (get_or warnings i d) ≡ warnings_text (take (i + 1) warnings)
warnings_more warnings i d within =
    let next : suc i ≡ i + 1 = omega arith in
    flat_map_more warned_line [] (take i warnings) (get_or warnings i d)
    ∙ ap warnings_text (sym (take-suc warnings i d within) ∙ ap (λ (k : ℕ). take k warnings) next)

pub puts_more : {W : Type 0} (contents : W → Option (List ℕ)) (old mid new : Output W) (warnings : List Warning) (i : ℕ) (d : Warning)
    → i < length warnings → Puts contents old (warnings_text (take i warnings)) mid
    → Puts contents mid (warned_line (get_or warnings i d)) new → Puts contents old (warnings_text (take (i + 1) warnings)) new
puts_more contents old mid new warnings i d within put more =
    subst (λ (text : List ℕ). Puts contents old text new) (warnings_more warnings i d within)
    (puts_both contents old mid new _ _ put more)
