use Rattle.std.proofs.Common.{arith}
use Rattle.test_devices.proofs.MemoryFiles.{zeroed_next}
use Rattle.test_devices.proofs.memory_folder.MemoryBlob.zeroed.Goals as goal

pub loop-bytes-preserved : goal.loop-bytes-preserved
loop-bytes-preserved c =
    zeroed_next c.args.self.now.content.items c.loop-bytes.bytes.items c.push.new.self.items c.args.len c.loop-bytes.invariant
    (omega (arith, c.loop-bytes-test.true, c.len.ensures, c.len-size.ensures)) c.in_ok-push.ensures.items
