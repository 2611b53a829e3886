use Rattle.std.proofs.Common.{List, ℕ, Err, inr, refl, subst}
use Rattle.mail_store.specs.{declared.fault.EntryFault.TheVariants.Front, MboxCalls.AppendsEntry}
use Rattle.mail_store.proofs.mboxrd.entry.append_entry.Goals as goal

pub returns-in-Err-Front-clause-appends : goal.returns-in-Err-Front-clause-appends
returns-in-Err-Front-clause-appends g c = λ sound.
    let (before, appends) = c.in-Err-Front.ensures.appends sound in (
      before,
      inr (inr (
        refl,
        subst (λ (bytes : List ℕ). AppendsEntry {T = Unit {0}} (g.F.FlatFile.disk c.args.file.now) bytes (Err Front)
            (g.F.FlatFile.disk c.append_owned.new.file)) c.in_ok-from_slice.ensures.items (rw c.in-Err-Front.field-0-is at appends),
      )),
    )
