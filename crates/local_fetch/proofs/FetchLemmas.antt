-- Calls of `fetch_local` are calls of `session` whose servers are honest, so what is promised of those holds of them.
use Rattle.mail_store.specs.Devices.{stored_in}
use Rattle.std.proofs.Common.{◌≡◌, ℕ, List, [], ◌∷◌, ◌++◌, None, refl}
use Rattle.mail_store.specs.declared.{maildir.disk.MaildirDisk.Ghosts as DiskGhosts, file.flat_file.FlatFile.Ghosts as FileGhosts}
use Rattle.pop3_wire.specs.{declared.wire.Wire.Ghosts as WireGhosts}
use Rattle.pop3_server.specs.{declared.maildrop.Maildrop.Ghosts as DropGhosts, LoopLink.Loop}
use Rattle.session_parts.specs.{
  declared.work.Store.{Store, TheVariants.{Maildir as InMaildir, Mboxrd as InMbox}},
  Target.{is_sound, mail_in},
}
use Rattle.fetch_runs.specs.{
  Promises.{ComesFor, Devices, IsTextOf, state_with, MboxStarts},
  Sessions.MboxMail,
  Calls.{Called, CallsKeepPromises, EmptyAccountsHold, IsCall, Left, Lost, with_left, MboxCallsKeepPromises},
  Order.{CallsKeepOrder, MboxCallsKeepOrder},
  Outcomes.no_entries,
}
use Rattle.local_fetch.{
  specs.Local.loop_to,
  specs.Fetches.{Fetch, FetchesFromNothing, FetchesKeepPromises, IsFetch, MboxFetchesFromNothing, MboxFetchesKeepPromises, ServerRemoves},
  specs.Fetches.{as_call, nothing_yet},
  proofs.LocalLemmas.served_by,
}

module _ {M D F : Type 0} (link : WireGhosts (Loop M)) (disk : DiskGhosts D) (file : FileGhosts F) (drop : DropGhosts M)
    (history : (w : Loop M) → link.history w ≡ w.link) where
  is_call : {S : Type 0} (In : S → Store D F) (Comes : List ℕ → List ℕ → Type 0) (devices : Devices S F) (fetch : Fetch M S F)
      → IsFetch link disk file drop In Comes devices fetch → (vanished : List (List ℕ)) × ServerRemoves drop fetch vanished
      × IsCall link disk file In (λ store. is_sound disk file (In store)) Comes devices (as_call drop fetch vanished)
  is_call In Comes devices fetch is =
      let s = is.fetched.served is.store_sound is.file_sound is.drop_sound is.messages in (
        s.vanished,
        s.left,
        record {
          made = is.fetched.made;
          link_sound = is.fetched.link_sound;
          store_sound = is.store_sound;
          file_sound = is.file_sound;
          maildrop = is.maildrop;
          served = λ sent got sent_is got_is. served_by fetch.wire.link refl s.served sent got
              (rw (history fetch.wire, history (loop_to fetch.server)) at sent_is)
              (rw (history fetch.wire, history (loop_to fetch.server)) at got_is);
        },
      )

  pub fetches_keep : CallsKeepOrder link disk file → CallsKeepPromises link disk file
      → FetchesKeepPromises link disk file drop
  fetches_keep order law mail state devices [] shows kept = (shows, kept)
  fetches_keep order law mail state devices (Called fetch ∷ later) shows kept = (
    shows,
    kept,
    λ account_is is.
        let (vanished, left, call) = is_call InMaildir (ComesFor mail) devices fetch is in
        let (promised, keeps, kept') = order.call mail state devices (as_call drop fetch vanished) shows kept account_is call in
        let after = state_with mail (with_left mail state promised.left) vanished promised.after in
        (vanished, left, promised, keeps, fetches_keep order law mail after fetch.after later promised.shows kept'),
  )
  fetches_keep order law mail state devices (Left left account ∷ later) shows kept =
      let (_, _, others) = law mail state devices (Left left account ∷ []) shows kept in (
        shows,
        kept,
        λ then between.
            let (safe, (shows', kept')) = others then between in (
              λ keeps. (safe keeps, order.others mail state devices left account keeps),
              fetches_keep order law mail (state_with mail state [] account) left later shows' kept',
            ),
      )
  fetches_keep order law mail state devices (Lost left account ∷ later) shows kept =
      let (_, _, loss) = law mail state devices (Lost left account ∷ []) shows kept in (
        shows,
        kept,
        λ safe lost.
            let (safe', (shows', kept')) = loss safe lost in (
              safe',
              order.loss mail state devices left account shows lost,
              fetches_keep order law mail (record state { account = account }) left later shows' kept',
            ),
      )

  pub mbox_fetches_keep : MboxCallsKeepOrder link disk file → MboxCallsKeepPromises link disk file
      → MboxFetchesKeepPromises link disk file drop
  mbox_fetches_keep order law base done account devices [] shows holds = (shows, holds)
  mbox_fetches_keep order law base done account devices (Called fetch ∷ later) shows holds = (
    shows,
    holds,
    λ only_new is.
        let (vanished, left, call) = is_call InMbox (IsTextOf base) devices fetch is in
        let (sent, after, sent_is, shown, appends, keeps) =
        order base done account devices (as_call drop fetch vanished) shows holds only_new call in
        let (_, _, then) = law base done account devices (Called (as_call drop fetch vanished) ∷ []) shows holds in
        let (_, _, _, _, _, safe, _) = then only_new call in
        let on = mbox_fetches_keep order law base (done ++ appends.more) after fetch.after later shown appends.kept in
        (vanished, left, holds, sent, after, sent_is, shown, appends, safe, keeps, on),
  )
  mbox_fetches_keep order law base done account devices (Left left now ∷ later) shows holds =
      (shows, holds, λ then from first there. mbox_fetches_keep order law from first now left later then there)
  mbox_fetches_keep order law base done account devices (Lost left now ∷ later) shows holds =
      let (_, _, loss) = law base done account devices (Lost left now ∷ []) shows holds in (
        shows,
        holds,
        λ safe lost.
            let (keeps, safe', (first, (shows', holds'))) = loss safe lost in
            (keeps, safe', (first, mbox_fetches_keep order law base first now left later shows' holds')),
      )

-- ---- from nothing on

pub from_nothing : {M D F : Type 0} (link : WireGhosts (Loop M)) (disk : DiskGhosts D) (file : FileGhosts F) (drop : DropGhosts M)
    → EmptyAccountsHold → FetchesKeepPromises link disk file drop → FetchesFromNothing link disk file drop
from_nothing link disk file drop empty law mail devices list no_file no_record =
    let state = nothing_yet (disk.maildir devices.store) in
    law mail state devices list (record { intent = None; record_is = rw no_record (refl, refl); maildir = refl })
    (empty mail state refl refl (λ id legal. rw no_file refl))

pub mbox_from_nothing : {M D F : Type 0} (link : WireGhosts (Loop M)) (disk : DiskGhosts D) (file : FileGhosts F) (drop : DropGhosts M)
    → MboxStarts → MboxFetchesKeepPromises link disk file drop → MboxFetchesFromNothing link disk file drop
mbox_from_nothing link disk file drop starts law text_of devices list no_record =
    let bytes = mail_in (stored_in file devices.store).content in
    let account : MboxMail = record { rows = []; intent = None; file = bytes } in
    law (no_entries text_of bytes) [] account devices list (record { record_is = rw no_record (refl, refl); bytes = refl })
    (starts (no_entries text_of bytes) account refl)
