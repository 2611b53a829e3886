use Rattle.mail_store.specs.Devices.{stored_in}
use Rattle.std.proofs.Common.{ap, inl, inr, length, refl, sym, ◌∙◌, Ok, Err}
use Rattle.session_parts.{
  proofs.{TalkLemmas.err_is, SceneLemmas.read_keeps},
  proofs.ReadyLemmas.{all_have_rows, told_of, by_ids_length, found_as_held, not_before, finding_refused, planned_length, ready, unready},
  specs.{Record.record_state_in, Target.target_of},
}
use Rattle.session_parts.proofs.readiness.prepare_by_store.Goals as goal

pub plan_without-requires : goal.plan_without-requires
plan_without-requires g c = let (_, (by, _)) = c.in_ok-found.ensures.flags in
    ap length c.deref.ensures.value ∙ by_ids_length _ _ by

pub returns-clause-plans : goal.returns-clause-plans
returns-clause-plans g c =
    let (length_held, ((is_odd, odd), may_be)) = c.in_ok-found.ensures.flags in
    let steps = c.in_ok-steps.ensures is_odd (c.deref.ensures.value ∙ odd) in record {
      is_odd = is_odd;
      may_be = may_be;
      steps = steps;
      lengths = (
        ap length steps ∙ planned_length c.args.terms.settings.now is_odd c.take_in.new.seen.rows c.args.listing.now c.args.terms.now,
        length_held,
      );
      rows = all_have_rows c.listed_has_row.ensures _ c.args.listing.now _ c.args.terms.now c.take_in.new.seen.rows
          c.in_ok-take_in.ensures.rows;
      closed = c.in_ok-take_in.ensures.closed;
    }

pub returns-clause-held : goal.returns-clause-held
returns-clause-held g c = λ d.
    let (_, _, (held, named)) = c.in_ok-found.ensures.stays d in
    let settings = c.args.terms.settings.now in
    let was = c.args.work.now.ledger.seen in
    let rows = c.take_in.new.seen.rows in
    let steps = c.in_ok-steps.steps.items in
    let (_, ((is_odd, odd), _)) = c.in_ok-found.ensures.flags in
    let only_asked = rw (sym (c.in_ok-steps.ensures is_odd (c.deref.ensures.value ∙ odd))) at
    (c.only_asked_for_are_fetched.ensures settings is_odd rows c.args.listing.now c.args.terms.now) in (
      rw held (found_as_held (target_of c.args.work.now.store c.args.terms.account.now) _ settings was.rows rows
          steps c.args.listing.now (not_before c.held_is_delivered.ensures c.marked_is_delivered.ensures c.in_ok-found.found.stored was.rows
          was.intent c.args.listing.now c.in_ok-found.found.held.items c.args.terms.now rows c.in_ok-take_in.ensures.rows) only_asked),
      named,
    )

pub returns-clause-steady : goal.returns-clause-steady
returns-clause-steady g c = λ f.
    let (sound, (_, steady)) = c.in_ok-take_in.ensures.merges f in (sound, rw c.in_ok-take_in.ensures.rows steady)

pub returns-in_err-found-clause-readies : goal.returns-in_err-found-clause-readies
returns-in_err-found-clause-readies g c = rw (err_is c.from_residual.ensures.1)
    (λ d f. told_of (c.in_err-found.ensures.finds d) f (λ left finds. record {
      readies = record {
        cause = finding_refused _ (target_of c.args.work.now.store c.args.terms.account.now) _ _ _ _ _ c.args.work.now.ledger.seen
            c.in_err-found.field-0.0 (c.requires.read.stands f) finds;
        content = inl refl;
      };
      durable = λ safe. (
        λ left may. may,
        inr (
          safe.1,
          (
            record_state_in c.args.work.now.ledger.seen,
            read_keeps (stored_in g.F.FlatFile c.args.work.now.ledger.file).content c.args.work.now.ledger.seen (c.requires.read.stands f),
            c.in_err-found.ensures.leaves d safe.0,
          ),
        ),
      );
    }))

pub returns-in_err-take_in-clause-readies : goal.returns-in_err-take_in-clause-readies
returns-in_err-take_in-clause-readies g c = rw (err_is c.from_residual-in_err-take_in.ensures.1) (λ d f.
    let merges = c.in_err-take_in.ensures.merges f in
    told_of (c.in_ok-found.ensures.finds d) merges.0 (λ left finds.
    unready _ _ _ _ _ c.take_in.new.file c.args.terms.account.now _ _ _ left c.args.work.now.ledger.seen
    c.in_ok-found.found (c.requires.read.stands merges.0) c.merges_ask_only_for_new_ids.ensures c.requires.is_record finds
    (Err c.in_err-take_in.field-0.0) merges.1 (λ safe. (
      safe.1,
      (c.in_err-take_in.ensures.durable f safe.1).0,
      c.in_ok-found.ensures.durable d safe.0,
      c.in_ok-found.ensures.leaves d safe.0,
    ))))

pub returns-in_err-steps-clause-readies : goal.returns-in_err-steps-clause-readies
returns-in_err-steps-clause-readies g c = rw (err_is c.from_residual-in_err-steps.ensures.1) (λ d f.
    let merges = c.in_ok-take_in.ensures.merges f in
    told_of (c.in_ok-found.ensures.finds d) merges.0 (λ left finds.
    unready _ _ _ _ _ c.take_in.new.file c.args.terms.account.now _ _ _ left c.args.work.now.ledger.seen
    c.in_ok-found.found (c.requires.read.stands merges.0) c.merges_ask_only_for_new_ids.ensures c.requires.is_record finds (Ok tt) merges.1
    (λ safe. (
      safe.1,
      (c.in_ok-take_in.ensures.durable f safe.1).0,
      c.in_ok-found.ensures.durable d safe.0,
      c.in_ok-found.ensures.leaves d safe.0,
    ))))

pub returns-clause-readies : goal.returns-clause-readies
returns-clause-readies g c = λ d f.
    let merges = c.in_ok-take_in.ensures.merges f in
    let (_, ((is_odd, odd), _)) = c.in_ok-found.ensures.flags in
    let only_asked = rw (sym (c.in_ok-steps.ensures is_odd (c.deref.ensures.value ∙ odd))) at
    (c.only_asked_for_are_fetched.ensures c.args.terms.settings.now is_odd c.take_in.new.seen.rows c.args.listing.now c.args.terms.now) in
    told_of (c.in_ok-found.ensures.finds d) merges.0 (λ left finds.
    ready _ _ _ _ _ c.take_in.new.file c.args.terms.account.now _ _ _ left c.args.work.now.ledger.seen
    c.in_ok-found.found (c.requires.read.stands merges.0) c.merges_ask_only_for_new_ids.ensures c.requires.is_record finds
    _ c.held_is_delivered.ensures c.marked_is_delivered.ensures only_asked merges.1 c.in_ok-take_in.ensures.rows refl
    (λ is_odd are. c.in_ok-steps.ensures is_odd (c.deref.ensures.value ∙ are))
    (λ safe. ((c.in_ok-take_in.ensures.durable f safe.1).1, c.in_ok-found.ensures.durable d safe.0)))
