use Rattle.std.proofs.Common.{◌≡◌, ◌⊎◌, None, string_bytes}
use Rattle.mail_terms.specs.MaildirName.{base}
use Rattle.folder_drop.specs.{declared.mail_files.FileWay.FileWay, Places.IsWayTo}
use Rattle.folder_drop.proofs.finding.find.Given as goal

abbrev pub invariant-loop : goal.invariant-loop
invariant-loop g l = (base (string_bytes l.name) ≡ base l.place.1.now)
    × (((l.folder ≡ l.place.0) × (string_bytes l.name ≡ l.place.1.now))
    ⊎ ((way : FileWay) × IsWayTo way (l.place.0, l.place.1.now) × g.D.MailFiles.found l.files way None))
