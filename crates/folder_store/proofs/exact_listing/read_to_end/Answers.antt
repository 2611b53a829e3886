use Rattle.std.proofs.Common.{◌∙◌, ap, arith, map, refl, string_bytes, take, [], ◌∷◌}
use Rattle.folder_store.proofs.Listing.{
  differ,
  fails_after,
  gives_denied,
  looked_between,
  read_adds,
  read_all,
  read_in_vain,
  read_more,
  read_nothing,
  reading_denied,
  reading_no_memory,
  reads_always,
  refused,
}
use Rattle.folder_store.proofs.exact_listing.read_to_end.Goals as goal

pub loop-reads-init : goal.loop-reads-init
loop-reads-init g c = (
  refl,
  read_nothing g.L.ListingCalls.did c.args.search.now.wanted c.args.folder.now _
      (ap (map string_bytes) c.new-found.ensures.items),
)

pub returns-in_err-count-clause-makes : goal.returns-in_err-count-clause-makes
returns-in_err-count-clause-makes g c = gives_denied c.from_residual.result _ c.from_residual.ensures.1
    (reading_denied _ c.args.search.now.wanted _ _ _ _ _ _ c.loop-reads.invariant.1 (refused c.in_err-count.ensures.did))

pub returns-then-count-eq0-clause-makes : goal.returns-then-count-eq0-clause-makes
returns-then-count-eq0-clause-makes g c = read_all g.L.ListingCalls.did c.args.search.now.wanted _ _ _ _ _
    (take c.in_ok-count.count c.read.new.octets) c.args.seen c.loop-reads.invariant.1 c.in_ok-count.ensures.did
    (ap (λ n. take n c.read.new.octets) c.if-count-eq0.true)

pub returns-in_err-add-clause-makes : goal.returns-in_err-add-clause-makes
returns-in_err-add-clause-makes g c = reading_no_memory _ c.args.search.now.wanted _ _ _ _ _ _
    c.from_residual-in_err-add.result _ c.from_residual-in_err-add.ensures.1 c.loop-reads.invariant.1 c.in_ok-count.ensures.did

pub loop-reads-preserved-then-reads-ne0 : goal.loop-reads-preserved-then-reads-ne0
loop-reads-preserved-then-reads-ne0 g c = (
  c.in_ok-add.ensures.wanted ∙ c.loop-reads.invariant.0,
  read_more g.L.ListingCalls.did c.args.search.now.wanted _ _ _ _ (map string_bytes c.loop-reads.found.items) _
      (take c.in_ok-count.count c.read.new.octets) c.loop-reads.invariant.1 c.in_ok-count.ensures.did
      (read_adds _ _ _ _ _ c.loop-reads.invariant.0 c.in_ok-add.ensures.adds),
)

pub returns-in_err-stat-clause-makes : goal.returns-in_err-stat-clause-makes
returns-in_err-stat-clause-makes g c = gives_denied c.from_residual-in_err-stat.result _ c.from_residual-in_err-stat.ensures.1
    (reading_denied _ c.args.search.now.wanted _ _ _ _ _ _ c.loop-reads.invariant.1
    (fails_after (_ ∷ []) (_, c.in_ok-count.ensures.did, refl) (refused c.in_err-stat.ensures)))

pub returns-then-ne-clause-makes : goal.returns-then-ne-clause-makes
returns-then-ne-clause-makes g c = read_in_vain g.L.ListingCalls.did c.args.search.now.wanted _ _ _ _ _ c.in_ok-stat.field-0
    c.args.seen (read_more g.L.ListingCalls.did c.args.search.now.wanted _ _ _ _ (map string_bytes c.loop-reads.found.items) _
    (take c.in_ok-count.count c.read.new.octets) c.loop-reads.invariant.1 c.in_ok-count.ensures.did
    (read_adds _ _ _ _ _ c.loop-reads.invariant.0 c.in_ok-add.ensures.adds)) c.in_ok-stat.ensures (differ _ _ c.if-ne.ensures)

pub loop-reads-preserved : goal.loop-reads-preserved
loop-reads-preserved g c = (
  c.in_ok-add.ensures.wanted ∙ c.loop-reads.invariant.0,
  looked_between g.L.ListingCalls.did c.args.search.now.wanted _ _ _ _ _ c.in_ok-stat.field-0
      (read_more g.L.ListingCalls.did c.args.search.now.wanted _ _ _ _ (map string_bytes c.loop-reads.found.items) _
      (take c.in_ok-count.count c.read.new.octets) c.loop-reads.invariant.1 c.in_ok-count.ensures.did
      (read_adds _ _ _ _ _ c.loop-reads.invariant.0 c.in_ok-add.ensures.adds)) c.in_ok-stat.ensures,
)

pub returns-clause-makes : goal.returns-clause-makes
returns-clause-makes g c = reads_always g.L.ListingCalls.did c.args.search.now.wanted _ _ c.loop-reads.reads _ c.args.seen
    c.loop-reads.invariant.1 (omega (arith, c.loop-reads-test.false))
