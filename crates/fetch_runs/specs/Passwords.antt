-- A password is in PASS alone.
use Rattle.std.specs.Prelude.{◌≡◌, ℕ, Bool, List, map}
use Rattle.mail_terms.specs.Listing.{Item}
use Rattle.fetch_record.specs.Record.{Row}
use Rattle.fetch_rules.specs.{Plan.planned, declared.plans.Step.Step}
use Rattle.pop3_wire.specs.declared.command.Command.{Command, TheVariants.Pass}
use Rattle.rc_file.specs.declared.settings.Settings.{Settings}
use Rattle.session_parts.specs.declared.report.Report.{Report}
use Rattle.fetch_runs.specs.{
  Accounts.AccountMail,
  Conversations.plan_commands,
  Sessions.{Effect, SessionOverLink},
}

-- the same command, with another password
abbrev pub with_word : List ℕ → Command → Command
with_word word (Pass password) = Pass word
with_word word command = command

-- the same settings, with the password of others
abbrev pub with_password_of : Settings → Settings → Settings
with_password_of other settings = record settings { password = other.password }

-- a law: what is planned doesn't depend on the password; of the commands of a plan PASS alone has it; and whatever a
-- session sent, got, reports, stores and records, a session with another password may have, but for what PASS said
pub record PasswordsAreInPass : Type 0 where
  pub plans : (settings other : Settings) (is_odd : List ℕ → Bool) (rows : List Row) (items : List Item) (now : ℕ)
      → planned (with_password_of other settings) is_odd rows items now ≡ planned settings is_odd rows items now
  pub commands : (name word other : List ℕ) (steps : List Step)
      → map (with_word other) (plan_commands name word steps) ≡ plan_commands name other steps
  pub sessions : (settings other : Settings) (account : List ℕ) (before : AccountMail) (sent got : List ℕ)
      (report : Report) (effect : Effect) (after : AccountMail)
      → SessionOverLink settings account before sent got report effect after
      → SessionOverLink (with_password_of other settings) account before sent got report effect after
