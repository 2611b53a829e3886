use Rattle.std.proofs.{Common.arith, lemmas.Result.IfOk-weaker}
use Rattle.test_devices.{specs.MemoryFolder.blob_of, proofs.MemoryFiles.{flushed_front_left, zeroed_left}}
use Rattle.test_devices.proofs.memory_folder.MemoryBlob.left.Goals as goal

pub returns-in-Front : goal.returns-in-Front
returns-in-Front c =
    IfOk-weaker c.front.result _ _
    (λ bytes e. rw e (flushed_front_left (blob_of c.args.self.now) c.in-Front.len (omega (arith, c.if-len-self.true)))) c.front.ensures

pub returns-in-Zeros : goal.returns-in-Zeros
returns-in-Zeros c =
    IfOk-weaker c.zeroed.result _ _ (λ bytes. zeroed_left (blob_of c.args.self.now) c.in-Zeros.len bytes.items
    (omega (arith, c.if-len-self-2.true))) c.zeroed.ensures
