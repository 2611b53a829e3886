-- Visits of an account are calls of `session`, one after another.
use Rattle.std.{
  proofs.Common.{◌≡◌, ◌<◌, ◌≤◌, ◌+◌, ℕ, List, [], ◌∷◌, ◌++◌, refl, subst, arith, length, take, set, get_or, rules},
  proofs.lemmas.{List.take_all, Grind.{take_at_read, take-set_at}},
}
use Rattle.pop3_wire.specs.declared.wire.Wire.{Ghosts as WireGhosts}
use Rattle.mail_store.specs.declared.{
  maildir.disk.MaildirDisk.Ghosts as DiskGhosts,
  file.flat_file.FlatFile.Ghosts as FileGhosts,
}
use Rattle.session_parts.specs.{Account.Holding, declared.report.Report.Report}
use Rattle.fetch_session.specs.{declared.visits.Visit.Visit, Visits.{AreMade, WasMade}}

module _ {W D F : Type 0} (link : WireGhosts W) (disk : DiskGhosts D) (file : FileGhosts F) where
  -- one more
  made_on : (olds : List (Visit W)) (first : Holding D F) (reports : List Report) (news : List (Visit W)) (mid : Holding D F)
      (old new : Visit W) (report : Report) (last : Holding D F) → AreMade link disk file olds first reports news mid
      → WasMade link disk file old.now mid old.wire report last new.wire → new.now ≡ old.now
      → AreMade link disk file (olds ++ old ∷ []) first (reports ++ report ∷ []) (news ++ new ∷ []) last
  made_on [] first [] [] mid old new report last made one now =
      (last, subst (λ (k : Holding D F). WasMade link disk file old.now k old.wire report last new.wire) made one, now, refl)
  made_on (o ∷ olds) first (r ∷ reports) (n ∷ news) mid old new report last made one now =
      (made.0, made.1, made.2, made_on olds made.0 reports news mid old new report last made.3 one now)
  made_on olds first reports news mid old new report last made one now = search rules

  pub made_next : (olds news : List (Visit W)) (i : ℕ) (first : Holding D F) {mid last : Holding D F} (reports : List Report)
      {more : List Report} {report : Report}
      (old new : Visit W) → AreMade link disk file (take i olds) first reports (take i news) mid
      → more ≡ reports ++ report ∷ [] → i < length olds → i < length news → get_or olds i old ≡ old
      → WasMade link disk file old.now mid old.wire report last new.wire → new.now ≡ old.now
      → AreMade link disk file (take (i + 1) olds) first more (take (i + 1) (set news i new)) last
  made_next olds news i first {mid} {last} reports {report = report} old new made pushed inside within is one now =
      let begins = rw is at (take_at_read olds i old inside).1 in
      rw (begins, take-set_at news i (i + 1) new refl within, pushed)
      (made_on (take i olds) first reports (take i news) mid old new report last made one now)

  pub made_all : (olds news : List (Visit W)) (i : ℕ) (first : Holding D F) (reports : List Report) (last : Holding D F)
      → AreMade link disk file (take i olds) first reports (take i news) last → length olds ≤ i → length news ≡ length olds
      → AreMade link disk file olds first reports news last
  made_all olds news i first reports last made past same = rw (take_all i news (omega (arith, past, same)), take_all i olds past) at made
