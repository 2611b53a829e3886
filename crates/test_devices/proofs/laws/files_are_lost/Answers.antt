use Rattle.std.proofs.Common.{false}
use Rattle.test_devices.proofs.Losses as lemmas
use Rattle.test_devices.proofs.laws.files_are_lost.Goals as goal

pub returns : goal.returns
returns c device bytes may = (
  record device {
    folder = lemmas.only_name device.name.now bytes;
    is_flushed = false;
    settled = record { flushed = λ never. absurd (let e = never in cc) };
  },
  lemmas.seen_alone device.name.now bytes,
  lemmas.left_alone c.durable_files_are_left.ensures.durable device.name.now bytes,
)
