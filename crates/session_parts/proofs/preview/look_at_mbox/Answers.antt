use Rattle.std.proofs.{Common.{false, refl, rules, sym, ◌∙◌}, lemmas.Simd.splat_is_map}
use Rattle.session_parts.proofs.{TalkLemmas.err_is, SessionLemmas.{judged_bad, judged_full, judged_good}}
use Rattle.session_parts.proofs.preview.look_at_mbox.Goals as goal

pub returns-in_err-stored-clause-looks : goal.returns-in_err-stored-clause-looks
returns-in_err-stored-clause-looks g c = rw (err_is c.from_residual.ensures.1) (λ d. let judges = c.in_err-stored.ensures d in
    (judges.0, judged_bad c.args.seen.now.intent _ c.args.listing.now c.in_err-stored.field-0.0 _ judges.1))

pub returns-clause-looks : goal.returns-clause-looks
returns-clause-looks g c = λ d. let judges = c.in_ok-stored.ensures d in (
  judges.0,
  judged_good c.args.seen.now.intent _ c.args.listing.now
      (record { held = c.in_ok-held.held; odd = c.in_ok-odd.odd; stored = c.in_ok-stored.stored }) _ judges.1
      (c.in_ok-held.ensures.items_if_clones_equal (λ y same. same)
      ∙ splat_is_map c.args.listing.now c.len.result false (sym c.len.ensures.count))
      (c.in_ok-odd.ensures.items_if_clones_equal (λ y same. same)
      ∙ splat_is_map c.args.listing.now c.len-2.result false (sym c.len-2.ensures.count)),
)

pub returns-clause-flags : goal.returns-clause-flags
returns-clause-flags g c = (
  search rules,
  (
    (
      λ uid. false,
      c.in_ok-odd.ensures.items_if_clones_equal (λ y same. same)
          ∙ splat_is_map c.args.listing.now c.len-2.result false (sym c.len-2.ensures.count),
    ),
    refl,
  ),
)

pub returns-in_err-odd-clause-looks : goal.returns-in_err-odd-clause-looks
returns-in_err-odd-clause-looks g c = rw (err_is c.from_residual-in_err-odd.ensures.1) (λ d. let judges = c.in_ok-stored.ensures d in
    (judges.0, judged_full c.args.seen.now.intent _ c.args.listing.now c.in_ok-stored.stored _ judges.1))

pub returns-in_err-held-clause-looks : goal.returns-in_err-held-clause-looks
returns-in_err-held-clause-looks g c = rw (err_is c.from_residual-in_err-held.ensures.1) (λ d. let judges = c.in_ok-stored.ensures d in
    (judges.0, judged_full c.args.seen.now.intent _ c.args.listing.now c.in_ok-stored.stored _ judges.1))
