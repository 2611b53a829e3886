use Rattle.getmail_program.proofs.ErrandLemmas.{fetches_of}
use Rattle.std.proofs.Common.{refl}
use Rattle.getmail_program.proofs.errand.fetch_at.Goals as goal

pub returns-clause-fetches : goal.returns-clause-fetches
returns-clause-fetches g c =
    let is_wire = c.shown-wire.ensures.shown.inner in
    let is_now = c.second_of.ensures in
    let is_destination = c.as_str-destination.ensures.value in
    let is_record = c.as_str-record.ensures.value in
    let did = c.fetch_mail-left.ensures in
    let (told, is) = did.fetched in
    let fetches = fetches_of _ _ _ _ _ _ _ _ _ _ _ _ _ _ _ _ _ _ _ _ _ _ _ _ _ refl is_wire is_now is_destination is_record is in (
      told,
      record {
        store = c.store-store.result;
        store_made = rw (is_destination, c.as_str-rests.ensures.value) at c.store-store.ensures.made;
        seen_file = c.record_file-seen_file.result;
        record_made = rw is_record at c.record_file-seen_file.ensures;
        left = _;
        wire' = c.fetch_mail-left.new.wire.wire;
        holds = fetches.holds;
        same = did.same;
      },
      record {
        fetched = c.fetch_mail-left.result.fetched;
        errors' = c.fetch_mail-left.new.errors;
        tells = fetches.tells;
        status_is = c.into_status.ensures;
      },
    )
