-- Kills: what a link and devices are behind a fuse that lets no call pass any more; and progress of calls over such.
use Rattle.std.specs.Prelude.{◌<◌, ℕ, false}
use Rattle.mail_terms.specs.FailureCount.{greatest_count}
use Rattle.mail_store.specs.declared.{
  maildir.disk.MaildirDisk.Ghosts as DiskGhosts,
  file.flat_file.FlatFile.Ghosts as FileGhosts,
}
use Rattle.pop3_wire.specs.{declared.wire.Wire.Ghosts as WireGhosts}
use Rattle.test_devices.specs.{LinkFuse.Fuse, declared.fused.Fused.Fused}
use Rattle.fetch_runs.specs.{
  Calls.{CallsKeepPromises, MboxCallsKeepPromises},
  Order.{CallsKeepOrder, MboxCallsKeepOrder},
  Progress.{CallsGetFar, MboxCallsGetFar},
}

-- a law: calls keep their promises and order, with a Maildir
abbrev pub AllKeepPromises : {W D F : Type 0} → WireGhosts W → DiskGhosts D → FileGhosts F → Type 0
AllKeepPromises link disk file = CallsKeepPromises link disk file × CallsKeepOrder link disk file

-- and with an mboxrd file
abbrev pub AllKeepMboxPromises : {W D F : Type 0} → WireGhosts W → DiskGhosts D → FileGhosts F → Type 0
AllKeepMboxPromises link disk file = MboxCallsKeepPromises link disk file × MboxCallsKeepOrder link disk file

-- a law: calls get far with a Maildir, and with an mboxrd file
abbrev pub AllGetFar : {W D F : Type 0} → WireGhosts W → DiskGhosts D → FileGhosts F → Type 0
AllGetFar link disk file = CallsGetFar link disk file × MboxCallsGetFar link disk file

-- no call passes any more, and so many were refused
abbrev pub blown_link : {W : Type 0} → W → ℕ → Fuse W
blown_link wire refused = record { wire = wire; left = 0; failures = refused }

abbrev pub blown : {D : Type 0} → D → ℕ → Fused D
blown device refused = record { device = device; passes_left = 0; takes_effect = false; failures = refused }

-- a link and devices that did what their traits say count as such behind a blown fuse too, if it refused fewer calls
-- than the greatest count: so a call after which they are behind one is a call as the laws ask
pub record KillsHappen {W D F : Type 0} (link : WireGhosts W) (disk : DiskGhosts D) (file : FileGhosts F)
    (fused_link : WireGhosts (Fuse W)) (fused_disk : DiskGhosts (Fused D)) (fused_file : FileGhosts (Fused F))
    : Type 0 where
  pub link_sound : (wire : W) (refused : ℕ) → refused < greatest_count → link.sound wire
      → fused_link.sound (blown_link wire refused)
  pub disk_sound : (device : D) (refused : ℕ) → refused < greatest_count → disk.sound device
      → fused_disk.sound (blown device refused)
  pub file_sound : (device : F) (refused : ℕ) → refused < greatest_count → file.sound device
      → fused_file.sound (blown device refused)
