use Rattle.std.{
  proofs.Common.{◌++◌, ◌∷◌, [], ◌∙◌, ℕ, List, ◌≡◌, ap, append-nil, flat_map, rules, sym},
  proofs.Output.{has_written_append, has_written_of_eq},
  proofs.lemmas.{Grind.flat_map-append, Iterator.YieldsList-from_chars, Iterator.Consumers.YieldsList-end, List.map-id},
}
use Rattle.popd_program.specs.Texts.{shown_character}
use Rattle.popd_program.proofs.warning.write_shown.Goals as goal

more : (xs : List ℕ) (x : ℕ) → flat_map shown_character xs ++ shown_character x ≡ flat_map shown_character (xs ++ x ∷ [])
more xs x = sym (flat_map-append shown_character xs (x ∷ [])
    ∙ ap (λ (l : List ℕ). flat_map shown_character xs ++ l) (append-nil (shown_character x)))

pub loop-character-preserved : goal.loop-character-preserved
loop-character-preserved g c = λ p. has_written_of_eq _ _ _ _ _ (more c.loop-character.yielded _)
    (has_written_append _ _ _ _ _ _ (c.loop-character.invariant p) (search rules))

pub returns : goal.returns
returns g c =
    let t = YieldsList-end (YieldsList-from_chars c.args.path.now c.utf8.path cc) c.loop-character.yielded _
    c.loop-character.yielded_by _ _ c.in-None.is c.next.ensures.steps in
    λ p ok. has_written_of_eq _ _ _ _ _ (ap (flat_map shown_character) (sym (map-id c.loop-character.yielded) ∙ t.0))
    (c.loop-character.invariant p)
