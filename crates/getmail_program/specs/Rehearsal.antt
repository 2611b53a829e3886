-- What a rehearsal holds, and what it shows of the commands that it sends.
use Rattle.std.specs.{
  Prelude.{◌≡◌, ◌≢◌, ◌⊎◌, ◌++◌, ℕ, true, false, List, [], ◌==◌, codes, if◌then◌else◌},
  Fmt.decimal,
  List.starts_with,
}
use Rattle.pop3_wire.specs.declared.wire.Wire.{Ghosts as WireGhosts}
use Rattle.mail_terms.specs.UniqueId.{IsLegalId}
use Rattle.mail_store.specs.FileName.{stem, stem_of}
use Rattle.mail_store.specs.declared.{
  maildir.disk.MaildirDisk.Ghosts as DiskGhosts,
  file.flat_file.FlatFile.Ghosts as FileGhosts,
}
use Rattle.rc_file.specs.{
  Flags.{is_contradiction, overridden},
  Settings.{Content, content_of, maildir},
  declared.{flags.Flags.Flags, settings.Settings.Settings},
}
use Rattle.session_parts.specs.{
  Account.Holding,
  Durable.RunsSession,
  Text.outcome_number,
  declared.{work.Store.Store, report.{Outcome.{Outcome, TheVariants.Ended}, Report.Report}},
}
use Rattle.getmail_program.specs.Holding.{holding_of}

-- a command as it is shown: PASS without its argument
abbrev pub shown_of : List ℕ → List ℕ
shown_of command = if starts_with (λ a b. a == b) command (codes "PASS ") then codes "PASS *" else command

-- its line
abbrev pub shown_line : List ℕ → List ℕ
shown_line command = (codes "C: " ++ shown_of command) ++ codes "\n"

-- a line is a command and CR LF; octets that don't end so are one too
abbrev pub IsCommandIn : List ℕ → List ℕ → Type 0
IsCommandIn line command =
    (line ≡ command ++ codes "\r\n") ⊎ (((front : List ℕ) → line ≢ front ++ codes "\r\n") × (command ≡ line))

-- the line of a stored file: the id of its message, if its name has one, and how many octets it has
abbrev pub IsStoredLine : List ℕ → List ℕ → ℕ → List ℕ → Type 0
IsStoredLine account name length line =
    ((uid : List ℕ) × IsLegalId uid × (stem_of account uid ≡ stem name)
    × (line ≡ (codes "stored " ++ uid) ++ (codes " " ++ (decimal length ++ codes "\n"))))
    ⊎ (((uid : List ℕ) → IsLegalId uid → stem_of account uid ≢ stem name) × (line ≡ []))

-- the last line: how the session came out
abbrev pub rehearsal_end : Outcome → List ℕ
rehearsal_end outcome = if outcome_number outcome == 0 then codes "ended\n"
    else codes "cut " ++ (decimal (outcome_number outcome) ++ codes "\n")

-- the settings of a rehearsal: all options at their defaults
abbrev pub defaults : Content
defaults = record {
  server = codes "rehearsal";
  port = 110;
  username = codes "u";
  password = codes "p";
  dest = maildir (codes "rehearsal/");
  read_all = true;
  delete = false;
  delete_after = 0;
  max_size = 0;
  max_count = 0;
  verbose = 1;
}

-- a session with these settings was held, and came out so
pub record HoldsOne {W D F : Type 0} (link : WireGhosts W) (disk : DiskGhosts D) (file : FileGhosts F)
    (settings : Settings) (outcome : Outcome) : Type 0 where
  pub store : Store D F
  pub seen_file : F
  pub wire : W
  pub report : Report
  pub left : Holding D F
  pub wire' : W
  pub runs : RunsSession link disk file 0 (holding_of settings store seen_file) wire report left wire'
  pub outcome_is : report.outcome ≡ outcome

-- one of a rehearsal's settings, changed by the flags, was held to its end
pub record HoldsWhole {W D F : Type 0} (link : WireGhosts W) (disk : DiskGhosts D) (file : FileGhosts F)
    (flags : Flags) : Type 0 where
  pub settings : Settings
  pub agree : is_contradiction flags ≡ false
  pub changed : content_of settings ≡ overridden defaults flags
  pub held : HoldsOne link disk file settings Ended

-- a rehearsal's status: 0 if its session was held to its end, 2 for opposite flags alone
pub record Rehearses {W D F : Type 0} (link : WireGhosts W) (disk : DiskGhosts D) (file : FileGhosts F)
    (flags : Flags) (status : ℕ) : Type 0 where
  pub ended : status ≡ 0 → HoldsWhole link disk file flags
  pub opposite : status ≡ 2 → is_contradiction flags ≡ true
