use Rattle.std.proofs.Common.{refl}
use Rattle.folder_drop.specs.MemoryFiles.{mail_files}
use Rattle.folder_drop.proofs.MemoryFilesLemmas.{gone_if, still_none, takes_named_one}
use Rattle.folder_drop.proofs.memory_files.MemoryFilesMailFiles.unlink.Goals as goal

pub returns-clause-removed : goal.returns-clause-removed
returns-clause-removed c = λ number found. gone_if c.args.way.now (mail_files c.args.self.now) (mail_files c.take.new.self) c.take.result
    (rw c.as_str.ensures.value at c.take.ensures.takes)

pub returns-clause-takes : goal.returns-clause-takes
returns-clause-takes c =
    let old = mail_files c.args.self.now in
    let new = mail_files c.take.new.self in
    let way = c.args.way.now in
    let lacks = takes_named_one way old new c.take.result (rw c.as_str.ensures.value at c.take.ensures.takes) in
    record {
      stays = record { place = refl; looks = c.take.ensures.stays };
      names = λ other number none. still_none way old new lacks other none;
      lacks = λ s. (tt, lacks);
    }
