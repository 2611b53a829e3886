use Rattle.getmail_program.proofs.ErrandLemmas.{account_of, made_of_parts}
use Rattle.getmail_program.proofs.errand.fetch_account.Goals as goal

pub returns-clause-fetched : goal.returns-clause-fetched
returns-clause-fetched g c =
    let (told, holds, tells) = c.fetch_told-fetched.ensures.fetched in
    let parts = c.into_parts-settings.ensures.parts in (
      told,
      account_of _ _ _ _ _ _ _ _ _ _ _ _ _ _ _ _ _ _ _ _ _ _ c.new-account.ensures
          (made_of_parts _ _ _ _ parts.0 parts.1 parts.2) (record { holds = holds; tells = tells }),
    )
