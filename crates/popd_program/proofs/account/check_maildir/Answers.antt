use Rattle.std.proofs.Common.{ℕ, List, inr, refl, string_bytes, subst}
use Rattle.folder_drop.specs.SafeMaildir.{IsRefusedOn}
use Rattle.popd_program.proofs.account.check_maildir.Goals as goal

pub returns-in_ok-from_utf8_lossy-in-Err-Unsafe-clause-told :
    goal.returns-in_ok-from_utf8_lossy-in-Err-Unsafe-clause-told
returns-in_ok-from_utf8_lossy-in-Err-Unsafe-clause-told g c = inr (c.in_ok-from_utf8_lossy-in-Err-Unsafe.field-0, refl)

pub returns-in_ok-from_utf8_lossy-in-Err-Unsafe-clause-refused :
    goal.returns-in_ok-from_utf8_lossy-in-Err-Unsafe-clause-refused
returns-in_ok-from_utf8_lossy-in-Err-Unsafe-clause-refused g c =
    let way = c.in-Err-Unsafe.way in
    inr (
      string_bytes way.path,
      way.flaw,
      subst
          (λ (maildir : List ℕ). IsRefusedOn g.L.Looks g.L.ReadFile c.args.looks.now maildir (string_bytes way.path) way.flaw)
          c.as_str.ensures.value (rw c.in-Err-Unsafe.field-0-is at c.in-Err-Unsafe.ensures.refused),
    )
