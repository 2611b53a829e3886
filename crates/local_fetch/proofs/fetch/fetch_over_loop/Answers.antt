use Rattle.mail_store.specs.Devices.{stored_in}
use Rattle.std.proofs.Common.{ap}
use Rattle.pop3_server.specs.LoopLink.{Loop}
use Rattle.session_parts.specs.{Account.digits_of, Session.{account_files, mbox_account_files}, Target.{maildir_of, mbox_of}}
use Rattle.local_fetch.proofs.LocalLemmas.{by_kind, fetches, mbox_fetches, few_refused}
use Rattle.local_fetch.proofs.fetch.fetch_over_loop.Goals as goal

pub returns-clause-fetched : goal.returns-clause-fetched
returns-clause-fetched g c =
    let small = few_refused c.new-wire.result.link _ c.session-report.result.outcome
    (ap (λ (l : Loop _). l.link.failures) c.new-wire.ensures.state) c.session-report.ensures.limits.0 in
    let valid = rw c.settings.ensures.value at c.settings.ensures.valid in
    let ran = rw c.new-wire.ensures.state at c.session-report.ensures.session in
    let same = c.session-report.ensures.same in
    let disk = g.D.MaildirDisk in
    let file = g.F.FlatFile in
    let drop = g.M.Maildrop in
    let old = c.args.account.now in
    let new = c.session-report.new.account in
    record {
      made = (valid, same, ran);
      fresh = c.requires.new.state;
      link_sound = small;
      up = c.failures.ensures.up;
      over = c.failures.ensures.over;
      served = λ store_sound file_sound drop_sound messages. by_kind disk file new.store
          (λ d. let (_, _, _, led, (left, _, session)) = c.sessions_by_store.ensures.maildir _ _ _ _ _ _ same ran small d
          file_sound in
          fetches drop.sound drop.mail c.loops_are_honest.ensures c.sessions_are_conversations.ensures old.settings
          (digits_of old.settings) _ _ _ (account_files left (stored_in file old.file)) c.session-report.result
          (account_files (maildir_of disk new.store) (stored_in file new.file)) c.requires.new valid led session drop_sound messages)
          (λ m. let (_, _, _, led, (session, _)) = c.sessions_by_store.ensures.mbox _ _ _ _ _ _ same ran small m file_sound in
          mbox_fetches drop.sound drop.mail c.loops_are_honest.ensures c.mbox_sessions_follow_plans.ensures old.settings _ _ _
          (mbox_account_files (mbox_of file old.store) (stored_in file old.file)) c.session-report.result
          (mbox_account_files (mbox_of file new.store) (stored_in file new.file)) c.requires.new valid led session drop_sound messages)
          store_sound;
    }
