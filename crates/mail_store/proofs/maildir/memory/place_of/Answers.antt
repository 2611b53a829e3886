use Rattle.std.proofs.Common.{refl, sym, ◌∙◌, arith, string_bytes}
use Rattle.std.proofs.lemmas.Bool.{false≢true}
use Rattle.std.proofs.lemmas.Simd.{map-map}
use Rattle.std.proofs.lemmas.Slice.Eq.{bytes_eq-Decides}
use Rattle.mail_store.proofs.MaildirLemmas.{named_there, not_read}
use Rattle.mail_store.proofs.maildir.memory.place_of.Goals as goal

pub returns-then-eq-clause-there : goal.returns-then-eq-clause-there
returns-then-eq-clause-there c =
    let same = (bytes_eq-Decides c.as_str.result.now c.args.name.now).0 (sym c.eq.ensures ∙ c.if-eq.true) in
    let there = named_there _ _ c.loop-place.place c.index-files-place.result (omega arith)
    c.index-files-place.is (sym c.as_str.ensures.value ∙ same) in
    (λ _. there, λ _. refl)

pub returns-clause-there : goal.returns-clause-there
returns-clause-there c = (
  λ none. absurd (false≢true none),
  simp map-map (λ there. absurd (not_read (λ p. string_bytes p.0) c.args.files.now c.args.name.now
      (λ k d below. c.loop-place.invariant k d (omega (arith, below, c.loop-place-test.false))) there)),
)
