use Rattle.std.proofs.Common.{◌++◌, ◌∙◌, ℕ, Some, ap, arith, length-append}
use Rattle.mail_store.specs.Durable.{Blob, seen_on}
use Rattle.probe.proofs.stores.rewrite_once.Goals as goal

-- the text was appended to what the file had
pub cut_to-requires : goal.cut_to-requires
cut_to-requires g c = λ sound.
    let (blob, _, _, is, grown) = (c.in_ok-append.ensures.appends sound).1 in
    let text = c.args.text.now in (
      blob.content ++ text,
      ap seen_on grown ∙ ap (λ (b : Blob). Some b.content) is,
      omega (arith, length-append blob.content text),
    )
