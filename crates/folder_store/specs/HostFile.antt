-- What a file in a folder of a file system is.
use Rattle.std.specs.Prelude.{◌≡◌, Bool, true, None}
use Rattle.mail_store.specs.{FlatFile.Stored, Durable.Disk, DiskCalls.all_flushed}

-- a file of which nothing is known; no call was refused
abbrev pub unknown_file : Stored
unknown_file = record { content = None; failures = 0 }

-- while the folder's calls did what they promise, a file that was flushed has all durable that calls see
pub record FlushHolds (is_flushed : Bool) (sound : Type 0) (disk : Disk) : Type 0 where
  pub flushed : is_flushed ≡ true → sound → all_flushed disk ≡ disk
