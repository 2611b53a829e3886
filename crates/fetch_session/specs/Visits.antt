-- Calls of `session`; and visits of an account, which are such calls, one after another, each over its own link.
use Rattle.std.specs.Prelude.{◌≡◌, ℕ, List, [], ◌∷◌}
use Rattle.pop3_wire.specs.declared.wire.Wire.{Ghosts as WireGhosts}
use Rattle.rc_file.specs.Settings.{IsValid}
use Rattle.mail_store.specs.declared.{
  file.flat_file.FlatFile.Ghosts as FileGhosts,
  maildir.disk.MaildirDisk.Ghosts as DiskGhosts,
}
use Rattle.session_parts.specs.{Account.{Holding, IsSameAccount}, Durable.RunsSession, declared.report.Report.Report}
use Rattle.fetch_session.specs.declared.visits.Visit.{Visit}

-- what the contract of `session` says of each call: `promised_session` is such a call, and its contract says just this
abbrev pub WasMade : {W D F : Type 0} → WireGhosts W → DiskGhosts D → FileGhosts F → ℕ → Holding D F → W → Report
    → Holding D F → W → Type 0
WasMade link disk file now old wire report new wire' =
    IsValid old.settings × IsSameAccount old new × RunsSession link disk file now old wire report new wire'

-- each visit was one call of `session` at its time, in order, over what the one before left, and has its report
abbrev pub AreMade : {W D F : Type 0} → WireGhosts W → DiskGhosts D → FileGhosts F → List (Visit W) → Holding D F
    → List Report → List (Visit W) → Holding D F → Type 0
AreMade link disk file [] first [] [] last = last ≡ first
AreMade {D = D} {F = F} link disk file (old ∷ olds) first (report ∷ reports) (new ∷ news) last = (between : Holding D F)
    × WasMade link disk file old.now first old.wire report between new.wire × (new.now ≡ old.now)
    × AreMade link disk file olds between reports news last
AreMade link disk file olds first reports news last = ⊥
