use Rattle.std.proofs.Common.{length}
use Rattle.test_devices.proofs.memory_folders.+may_be_found.Given as goal

abbrev pub decreases-may_be_found : goal.decreases-may_be_found
decreases-may_be_found l = length l.files.now
