use Rattle.std.proofs.Common.{None, map}
use Rattle.std.specs.Prelude.{string_bytes}
use Rattle.test_devices.proofs.Losses as lemmas
use Rattle.test_devices.proofs.laws.mail_is_lost.Goals as goal

pub returns : goal.returns
returns c device = (
  record device { folders = lemmas.lost device.folders; begun = None; failures = 0 },
  c.new_maildirs_keep_mail.ensures.losses
      device
      (lemmas.lost device.folders)
      (map string_bytes device.odd.items)
      (lemmas.loses device.folders),
  lemmas.named_are_left device.folders.entries,
)
