use Rattle.std.proofs.Common.{◌∙◌, None, Some, arith, refl, [], ◌∷◌}
use Rattle.folder_store.proofs.Listing.{
  always_changes,
  fails_after,
  listed_so,
  names_denied,
  not_late,
  refused,
  tried_all,
  tried_denied,
  tried_exact,
  tried_none,
  tried_one_more,
  tried_too_long,
}
use Rattle.folder_store.specs.ExactListing.{name_texts}
use Rattle.folder_store.proofs.exact_listing.list_names.Goals as goal

pub returns-in_err-start : goal.returns-in_err-start
returns-in_err-start g c =
    names_denied c.from_residual.result c.args.wanted c.args.path.now c.from_residual.ensures.1 (refused c.in_err-start.ensures)

pub returns-in_err-seen : goal.returns-in_err-seen
returns-in_err-seen g c = names_denied c.from_residual-in_err-seen.result c.args.wanted c.args.path.now
    c.from_residual-in_err-seen.ensures.1 (fails_after (_ ∷ []) (_, c.in_ok-start.ensures, refl) c.in_err-seen.ensures)

pub loop-times-init : goal.loop-times-init
loop-times-init g c = (
  c.new-search.ensures,
  tried_none g.L.ListingCalls.did c.args.wanted _ _ _ c.in_ok-start.start c.in_ok-seen.seen c.in_ok-start.ensures
      c.in_ok-seen.ensures,
)

pub returns-in_err-told : goal.returns-in_err-told
returns-in_err-told g c = names_denied c.from_residual-in_err-told.result c.args.wanted c.args.path.now
    c.from_residual-in_err-told.ensures.1
    (tried_denied _ _ _ _ _ _ _ _ _ c.loop-times.invariant.1 c.in_err-told.ensures.makes)

pub returns-in-Some : goal.returns-in-Some
returns-in-Some g c = tried_exact g.L.ListingCalls.did c.args.wanted _ _ _ c.in_ok-start.start c.loop-times.seen c.in_ok-told.again
    c.loop-times.times (record { names = c.in-Some.names; change = c.in_ok-told.again.change }) c.loop-times.invariant.1
    (listed_so _ _ _ name_texts _ _ _ _ c.in_ok-told.told (Some c.in-Some.names) c.loop-times.invariant.0 c.in-Some.is
    c.in_ok-told.ensures.makes) refl

pub returns-then-is_late : goal.returns-then-is_late
returns-then-is_late g c = always_changes c.args.wanted c.args.path.now c.because.result c.because.ensures.kind
    c.because.ensures.path (tried_too_long g.L.ListingCalls.did c.args.wanted _ _ _ c.in_ok-start.start c.loop-times.seen
    c.in_ok-told.again c.loop-times.times c.loop-times.invariant.1
    (listed_so _ _ _ name_texts _ _ _ _ c.in_ok-told.told None c.loop-times.invariant.0 c.in_default.is c.in_ok-told.ensures.makes)
    (c.is_late.ensures.0 c.if-is_late.true))

pub loop-times-preserved : goal.loop-times-preserved
loop-times-preserved g c = (
  c.in_ok-told.ensures.wanted ∙ c.loop-times.invariant.0,
  tried_one_more g.L.ListingCalls.did c.args.wanted _ _ _ c.in_ok-start.start c.loop-times.seen c.in_ok-told.again
      c.loop-times.times _ c.loop-times.invariant.1
      (listed_so _ _ _ name_texts _ _ _ _ c.in_ok-told.told None c.loop-times.invariant.0 c.in_default.is c.in_ok-told.ensures.makes)
      (not_late c.is_late.result _ _ c.is_late.ensures.1 c.if-is_late.false) (omega arith),
)

pub returns : goal.returns
returns g c = always_changes c.args.wanted c.args.path.now c.because-2.result c.because-2.ensures.kind c.because-2.ensures.path
    (tried_all g.L.ListingCalls.did c.args.wanted _ _ c.in_ok-start.start c.loop-times.seen c.loop-times.times
    c.loop-times.invariant.1 (omega (arith, c.loop-times-test.false, c.loop-times.auto.times-end)))
