use Rattle.std.proofs.Common.{◌≡◌, rules, string_bytes}
use Rattle.mail_store.specs.FileName.{sized}
use Rattle.session_parts.proofs.TextLemmas.{named_before}
use mathlib.Core.Logic.{⊎_map}
use Rattle.fetch_session.proofs.storing.settle_file.Goals as goal

pub returns-in-Ok : goal.returns-in-Ok
returns-in-Ok g c = record {
  ends = λ d.
      let named : c.as_str.result.now ≡ sized (string_bytes c.args.stem) c.args.size = search rules in
      let settles = rw named at (c.in-Ok.ensures.settles d) in (
        settles.0,
        λ draft begun.
            let (risen, are, is) = settles.1 draft begun in
            rw (named_before (g.D.MaildirDisk.maildir c.args.disk.now).files risen (c.requires.named settles.0) are) at is,
      );
}

pub returns : goal.returns
returns g c = record {
  ends = λ d.
      let named : c.as_str.result.now ≡ sized (string_bytes c.args.stem) c.args.size = search rules in
      let settles = rw named at (c.in-Err.ensures.settles d) in (
        settles.0,
        (
          search rules,
          λ draft begun. ⊎_map (λ none. none) (λ (risen, are, is). rw (named_before (g.D.MaildirDisk.maildir c.args.disk.now).files risen
              (c.requires.named settles.0) are) at is) (settles.1 draft begun),
        ),
      );
}
