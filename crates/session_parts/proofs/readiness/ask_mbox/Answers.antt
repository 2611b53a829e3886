use Rattle.mail_store.specs.{Devices.{known_file, stored_in}, Fault.is_refusal}
use Rattle.std.proofs.{
  Common.{false, rules, sym, refl, ◌∙◌, ℕ, List, Option, None, Some},
  lemmas.{Result.err_from_is_err_and, Simd.splat_is_map},
}
use Rattle.fetch_record.specs.Record.{Intent}
use Rattle.mail_store.{specs.{Durable.{Trusted, MayLeave}, Power.LeavesNoMore}, proofs.DiskLemmas.{all_seen, all_trust, durable_flush}}
use Rattle.session_parts.{
  specs.Durable.LeavesSettled,
  proofs.{SessionLemmas.durable_safe, SceneLemmas.and_so, readiness.ask_mbox.Goals.After-check_mbox, TextLemmas.{asks_ok, asks_refused}},
  proofs.{EnteredLemmas.tallied, EntrySeen.stays},
}
use Rattle.session_parts.proofs.readiness.ask_mbox.Goals as goal

pub returns-in_err-check_mbox-clause-asks : goal.returns-in_err-check_mbox-clause-asks
returns-in_err-check_mbox-clause-asks g c =
    let p = err_from_is_err_and c.from_residual-in_err-check_mbox.result c.from_residual-in_err-check_mbox.ensures.1 in
    rw p.1 (λ kept.
    let (before, (tells, flushed)) = c.in_err-check_mbox.ensures.checks kept in
    let settles = c.in_ok-stored.ensures.settles before in (
      settles.0,
      asks_refused c.args.seen.now.intent (stored_in g.F.FlatFile c.args.mbox.now)
          (stored_in g.F.FlatFile c.settle.new.mbox) (stored_in g.F.FlatFile c.check_mbox.new.file) c.in_ok-stored.stored
          c.args.listing.now c.in_err-check_mbox.field-0.0 p.0 settles.1 (
            tells,
            stays (known_file g.F.FlatFile c.settle.new.mbox) (known_file g.F.FlatFile c.check_mbox.new.file)
                c.in_err-check_mbox.field-0.0 flushed (tallied (is_refusal c.in_err-check_mbox.field-0.0)
                (g.F.FlatFile.refusals c.settle.new.mbox) (g.F.FlatFile.refusals c.check_mbox.new.file)
                (g.met.F.FlatFile.below c.check_mbox.new.file kept) c.in_err-check_mbox.ensures.count),
          ) p.2,
    ))

pub returns-clause-asks : goal.returns-clause-asks
returns-clause-asks g c = λ kept.
    let (before, (tells, flushed)) = c.in_ok-check_mbox.ensures.checks kept in
    and_so (c.in_ok-stored.ensures.settles before)
    (λ sound settles. asks_ok c.args.seen.now.intent _ _ _ c.in_ok-stored.stored c.args.listing.now
    (record { held = c.in_ok-held.held; odd = c.in_ok-odd.odd; stored = c.in_ok-stored.stored }) settles (
      tells,
      rw (
        all_seen (g.F.FlatFile.disk c.settle.new.mbox) (g.F.FlatFile.disk c.check_mbox.new.file) flushed,
        c.in_ok-check_mbox.ensures.count,
      ) refl,
    ) refl
    (c.in_ok-held.ensures.items_if_clones_equal (λ y same. same)
    ∙ splat_is_map c.args.listing.now c.len.result false (sym c.len.ensures.count))
    (c.in_ok-odd.ensures.items_if_clones_equal (λ y same. same)
    ∙ splat_is_map c.args.listing.now c.len-2.result false (sym c.len-2.ensures.count)))

pub returns-clause-flags : goal.returns-clause-flags
returns-clause-flags g c = (
  search rules,
  (
    (
      λ uid. false,
      c.in_ok-odd.ensures.items_if_clones_equal (λ y same. same)
          ∙ splat_is_map c.args.listing.now c.len-2.result false (sym c.len-2.ensures.count),
    ),
    refl,
  ),
)

pub returns-clause-durable : goal.returns-clause-durable
returns-clause-durable g c = λ kept trust.
    let (before, (_, flushed)) = c.in_ok-check_mbox.ensures.checks kept in
    durable_safe g.F.FlatFile c.check_mbox.new.file refl (all_trust (g.F.FlatFile.disk c.settle.new.mbox)
    (g.F.FlatFile.disk c.check_mbox.new.file) flushed (c.in_ok-stored.ensures.durable before trust))

-- what is left after another flush could be left before it
settled_after_flush : (a b b' : Option (List ℕ) → Type 0) (intent : Option Intent) (content : Option (List ℕ)) → LeavesNoMore b b'
    → LeavesSettled intent content a b → LeavesSettled intent content a b'
settled_after_flush a b b' None content no_more leaves = λ left may. leaves left (no_more left may)
settled_after_flush a b b' (Some intent) content no_more leaves = λ left may. leaves left (no_more left may)

check_leaves : (g : _) (c : After-check_mbox g) → g.F.FlatFile.sound c.check_mbox.new.file → Trusted (g.F.FlatFile.disk c.args.mbox.now).now
    → LeavesSettled c.args.seen.now.intent (stored_in g.F.FlatFile c.args.mbox.now).content
    (MayLeave (g.F.FlatFile.disk c.args.mbox.now)) (MayLeave (g.F.FlatFile.disk c.check_mbox.new.file))
check_leaves g c kept trust =
    let (before, (_, flushed)) = c.check_mbox.ensures.checks kept in
    settled_after_flush _ _ _ c.args.seen.now.intent (stored_in g.F.FlatFile c.args.mbox.now).content
    (durable_flush (g.F.FlatFile.disk c.settle.new.mbox) (g.F.FlatFile.disk c.check_mbox.new.file) c.check_mbox.result
    flushed).no_more (c.settle.ensures.leaves before trust)

pub returns-in_err-check_mbox-clause-leaves : goal.returns-in_err-check_mbox-clause-leaves
returns-in_err-check_mbox-clause-leaves g c = check_leaves g (goal.at.returns-in_err-check_mbox-clause-leaves g c).After-check_mbox

pub returns-in_err-held-clause-leaves : goal.returns-in_err-held-clause-leaves
returns-in_err-held-clause-leaves g c = check_leaves g (goal.at.returns-in_err-held-clause-leaves g c).After-check_mbox

pub returns-in_err-odd-clause-leaves : goal.returns-in_err-odd-clause-leaves
returns-in_err-odd-clause-leaves g c = check_leaves g (goal.at.returns-in_err-odd-clause-leaves g c).After-check_mbox

pub returns-clause-leaves : goal.returns-clause-leaves
returns-clause-leaves g c = check_leaves g (goal.at.returns-clause-leaves g c).After-check_mbox
