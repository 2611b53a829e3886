use Rattle.std.proofs.Common.{length}
use Rattle.test_devices.proofs.memory_folder.+may_leave_older.Given as goal

abbrev pub decreases-may_leave_older : goal.decreases-may_leave_older
decreases-may_leave_older l = length l.older.now
