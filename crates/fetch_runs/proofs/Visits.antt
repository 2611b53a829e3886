-- Visits of an account are calls of `session`, one after another.
use Rattle.std.proofs.{
  Common.{◌≡◌, false, List, [], ◌∷◌, ◌++◌, append_assoc, refl, sym, ap, subst, arith, ◌∙◌, rules},
  lemmas.List.append-nil,
}
use Rattle.pop3_wire.specs.{World.Message, declared.wire.Wire.Ghosts as WireGhosts}
use Rattle.rc_file.specs.declared.settings.Settings.{Settings}
use Rattle.mail_store.specs.declared.{
  maildir.disk.MaildirDisk.Ghosts as DiskGhosts,
  file.flat_file.FlatFile.Ghosts as FileGhosts,
}
use Rattle.session_parts.specs.{
  Account.{Holding, IsSameAccount, digits_of},
  Target.kind_of,
  declared.{work.Store.{Store, TheVariants.{Maildir as InMaildir, Mboxrd as InMbox}}, report.Report.Report},
}
use Rattle.fetch_session.specs.{declared.visits.Visit.Visit, Visits.{AreMade, WasMade}}
use Rattle.fetch_runs.specs.{
  Calls.{Called, CallsKeepPromises, MboxCallsKeepPromises, Shows, ShowsMbox, account_over},
  Promises.{Base, Call, ComesFor, Devices, HoldsEntries, Invariant, IsTextOf, Mail, State},
  Sessions.MboxMail,
  Visits.{AreCalls, AreServed, CallsOf, Server, VisitsAreCalls, VisitsKeepStates, visit_call},
}

module _ {W D F : Type 0} (link : WireGhosts W) (disk : DiskGhosts D) (file : FileGhosts F) where
  over_maildir : (settings : Settings) (first : Devices D F) (between : Holding D F)
      → IsSameAccount (account_over InMaildir settings first) between
      → (after : Devices D F) × (between ≡ account_over InMaildir settings after)
  over_maildir settings first between same = go between.store refl same.kind
    where
      go : (store : Store D F) → between.store ≡ store → kind_of store ≡ kind_of (account_over InMaildir settings first).store
          → (after : Devices D F) × (between ≡ account_over InMaildir settings after)
      go (InMaildir d) is _ = (
        record { store = d; file = between.file },
        λ i. record { settings = same.settings i; store = is i; file = between.file },
      )
      go (InMbox f) _ kind = absurd (let never = kind in cc)

  over_mbox : (settings : Settings) (first : Devices F F) (between : Holding D F)
      → IsSameAccount (account_over InMbox settings first) between
      → (after : Devices F F) × (between ≡ account_over InMbox settings after)
  over_mbox settings first between same = go between.store refl same.kind
    where
      go : (store : Store D F) → between.store ≡ store → kind_of store ≡ kind_of (account_over {D = D} InMbox settings first).store
          → (after : Devices F F) × (between ≡ account_over InMbox settings after)
      go (InMbox f) is _ = (
        record { store = f; file = between.file },
        λ i. record { settings = same.settings i; store = is i; file = between.file },
      )
      go (InMaildir d) _ kind = absurd (let never = kind in cc)

  calls_of : {S : Type 0} (In : S → Store D F) → ((settings : Settings) (first : Devices S F) (between : Holding D F)
      → IsSameAccount (account_over In settings first) between
      → (after : Devices S F) × (between ≡ account_over In settings after)) → CallsOf link disk file In
  calls_of In stays settings first [] [] [] [] account made same = (first, made, [], refl)
  calls_of In stays settings first (old ∷ olds) (report ∷ reports) (new ∷ news) (server ∷ servers) account made same =
      let (between, one, now, later) = made in
      let (after, is) = stays settings first between one.1 in
      let was = subst
      (λ (k : Holding D F). WasMade link disk file old.now (account_over In settings first) old.wire report k new.wire)
      is one in
      let (last, last_is, calls, are) = calls_of In stays settings after olds reports news servers account
      (subst (λ (k : Holding D F). AreMade link disk file olds k reports news account) is later) (omega (arith, same)) in
      (last, last_is, visit_call settings old report new server after ∷ calls, (refl, was, are))
  calls_of In stays settings first olds reports news servers account made same = search rules

  pub visits_are_calls : VisitsAreCalls link disk file
  visits_are_calls = record { maildir = calls_of InMaildir over_maildir; mbox = calls_of InMbox over_mbox }

  keep_states : CallsKeepPromises link disk file → (settings : Settings) (first last : Devices D F) (olds : List (Visit W))
      (reports : List Report) (news : List (Visit W)) (servers : List Server) (calls : List (Call W D F)) (mail : Mail) (state : State)
      → digits_of settings ≡ mail.account → AreCalls link disk file InMaildir settings olds reports news servers first last calls
      → AreServed link disk file InMaildir disk.sound (ComesFor mail) first calls → Shows disk file first state.account
      → Invariant mail state
      → (after : State) × Shows disk file last after.account × Invariant mail after
  keep_states law settings first last [] [] [] [] [] mail state account_is are served shows kept =
      (state, subst (λ (d : Devices D F). Shows disk file d state.account) (sym are) shows, kept)
  keep_states law settings first last (old ∷ olds) (report ∷ reports) (new ∷ news) (server ∷ servers) (call ∷ calls) mail state
      account_is are served shows kept =
      let digits : digits_of call.settings ≡ mail.account = ap (λ (c : Call W D F). digits_of c.settings) are.0 ∙ account_is in
      let (_, (after_shows, after_kept)) = (law mail state first (Called call ∷ []) shows kept).2 digits served.0 in
      keep_states law settings call.after last olds reports news servers calls mail _ account_is are.2 served.1 after_shows after_kept
  keep_states law settings first last olds reports news servers calls mail state account_is are served shows kept = search rules

  keep_entries : MboxCallsKeepPromises link disk file → (settings : Settings) (first last : Devices F F) (olds : List (Visit W))
      (reports : List Report) (news : List (Visit W)) (servers : List Server) (calls : List (Call W F F)) (base : Base)
      (done : List Message) (account : MboxMail) → settings.read_all ≡ false
      → AreCalls link disk file InMbox settings olds reports news servers first last calls
      → AreServed link disk file InMbox file.sound (IsTextOf base) first calls → ShowsMbox file first account
      → HoldsEntries base done account
      → (more : List Message) × (after : MboxMail) × ShowsMbox file last after × HoldsEntries base (done ++ more) after
  keep_entries law settings first last [] [] [] [] [] base done account new_only are served shows holds = (
    [],
    account,
    subst (λ (d : Devices F F). ShowsMbox file d account) (sym are) shows,
    subst (λ (ms : List Message). HoldsEntries base ms account) (sym (append-nil done)) holds,
  )
  keep_entries law settings first last (old ∷ olds) (report ∷ reports) (new ∷ news) (server ∷ servers) (call ∷ calls) base done account
      new_only are served shows holds =
      let only : call.settings.read_all ≡ false = ap (λ (c : Call W F F). c.settings.read_all) are.0 ∙ new_only in
      let (_, after, _, _, appends, _, (after_shows, after_holds)) =
      (law base done account first (Called call ∷ []) shows holds).2 only served.0 in
      let (more, left, left_shows, left_holds) = keep_entries law settings call.after last olds reports news servers calls base
      (done ++ appends.more) after new_only are.2 served.1 after_shows after_holds in (
        appends.more ++ more,
        left,
        left_shows,
        subst (λ (ms : List Message). HoldsEntries base ms left) (append_assoc done appends.more more) left_holds,
      )
  keep_entries law settings first last olds reports news servers calls base done account new_only are served shows holds = search rules

  pub visits_keep_states : CallsKeepPromises link disk file → MboxCallsKeepPromises link disk file → VisitsKeepStates link disk file
  visits_keep_states law mbox_law = record { maildir = keep_states law; mbox = keep_entries mbox_law }
