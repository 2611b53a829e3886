use Rattle.std.proofs.{
  Common.{◌≡◌, List, ℕ, [], length, rules, sym, refl, ◌∙◌, eqb-true, Result, Ok, Err, Some, IfErr},
  lemmas.List.nil_from_length,
}
use Rattle.mail_store.specs.{
  declared.fault.StoreFault.{StoreFault, TheVariants.Refused},
  FileName.sized,
  Maildir.{Maildir, Settles, Delivers, draft, mail},
}
use Rattle.mail_store.proofs.maildir.delivery.deliver.Goals as goal

-- a file of these bytes was begun under any name, and settled under this one
delivered : {T : Type 0} (old new : Maildir) (title name bytes : List ℕ) (r : Result T StoreFault) → IfErr r (λ e. e ≡ Refused)
    → Settles (record old { begun = Some (draft title bytes) }) name r new → Delivers old (mail name bytes) r new
delivered old new title name bytes (Ok done) fault s = s (draft title bytes) refl
delivered old new title name bytes (Err Refused) fault s = s (draft title bytes) refl
delivered old new title name bytes r fault s = absurd (cc fault)

pub returns-then-is_empty-clause-delivers : goal.returns-then-is_empty-clause-delivers
returns-then-is_empty-clause-delivers g c = λ k.
    let (between, settles) = c.settle.ensures.settles k in
    let (first, (_, begun)) = c.in_ok-begin.ensures.begins between in
    let named : c.as_str.result.now ≡ sized c.args.stem.now (length c.args.text.now) = search rules in
    let empty = nil_from_length c.args.text.now (eqb-true (length c.args.text.now) 0 (sym c.is_empty.ensures ∙ c.if-is_empty.true)) in (
      first,
      rw (← named, empty) (delivered _ _ c.args.stem.now c.as_str.result.now [] c.settle.result
          c.settle.ensures.fault (rw begun at settles)),
    )

pub settle-requires-2-clause-not_there : goal.settle-requires-2-clause-not_there
settle-requires-2-clause-not_there g c = λ k.
    let (between, added) = c.in_default.ensures.adds k in
    let (first, (_, begun)) = c.in_ok-begin.ensures.begins between in
    let named : c.as_str-2.result.now ≡ sized c.args.stem.now (length c.args.text.now) = search rules in
    rw ((rw begun at added) (draft c.args.stem.now []) refl, named) (c.requires.not_there first)

pub returns-clause-delivers : goal.returns-clause-delivers
returns-clause-delivers g c = λ k.
    let (later, settles) = c.settle-2.ensures.settles k in
    let (between, added) = c.in_default.ensures.adds later in
    let (first, (_, begun)) = c.in_ok-begin.ensures.begins between in
    let named : c.as_str-2.result.now ≡ sized c.args.stem.now (length c.args.text.now) = search rules in
    let written = rw ((rw begun at added) (draft c.args.stem.now []) refl) at settles in (
      first,
      rw (← named) (delivered _ _ c.args.stem.now c.as_str-2.result.now c.args.text.now c.settle-2.result c.settle-2.ensures.fault written),
    )
