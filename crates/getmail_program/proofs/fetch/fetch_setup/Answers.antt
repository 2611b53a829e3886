use Rattle.std.proofs.Common.{◌∙◌}
use Rattle.getmail_program.proofs.fetch.fetch_setup.Goals as goal

pub returns-clause-holds : goal.returns-clause-holds
returns-clause-holds g c =
    let (told, fetches, tells) = c.fetch_at.ensures.fetches in
    record {
      time = c.time.result;
      wire = _;
      told = told;
      fetches = record {
        store = fetches.store;
        store_made = tt;
        seen_file = fetches.seen_file;
        record_made = tt;
        left = fetches.left;
        wire' = fetches.wire';
        holds = fetches.holds;
        same = fetches.same;
      };
      refusal = c.fetch_at.new.out.refusal;
      status_is = tells.status_is ∙ tells.tells.errors.status;
    }
