use Rattle.std.proofs.{Common.{◌≡◌, ◌≢◌, arith, rules}, lemmas.Grind.common_steps}
use Rattle.folder_drop.specs.{declared.removal.Namesake.Namesake, Removal.BearsOne}
use Rattle.folder_drop.proofs.TakenLemmas.{takes_more, takes_named, takes_none, takes_then}
use Rattle.folder_drop.proofs.removal.remove_copies.Goals as goal
use Rattle.folder_drop.proofs.removal.remove_copies.Goals.{then-ne+in_ok-remove_name, else-ne}

pub loop-file-init : goal.loop-file-init
loop-file-init g c = (
  λ k d low high. absurd (omega (arith, high)),
  takes_none g.D.MailFiles.path g.D.MailFiles.looked g.D.MailFiles.removed g.D.MailFiles.sound g.D.MailFiles.files
      (BearsOne c.args.all.now) c.args.files.now,
)

pub returns-in_err-remove_name-clause-takes : goal.returns-in_err-remove_name-clause-takes
returns-in_err-remove_name-clause-takes g c = takes_then g.D.MailFiles.path g.D.MailFiles.looked g.D.MailFiles.removed
    g.D.MailFiles.sound
    g.D.MailFiles.files (BearsOne c.args.all.now) c.args.files.now c.loop-file.files c.remove_name.new.files c.loop-file.invariant.1
    (takes_named g.D.MailFiles.path g.D.MailFiles.looked g.D.MailFiles.removed g.D.MailFiles.sound g.D.MailFiles.files
    c.args.all.now
    c.loop-file.file-index c.file-item.result c.loop-file.files c.remove_name.new.files c.loop-file-test.true c.file-item.is
    c.remove_name.ensures.takes)

pub loop-file-preserved : goal.loop-file-preserved
loop-file-preserved g c =
    let more = takes_more g.D.MailFiles.path g.D.MailFiles.looked g.D.MailFiles.removed g.D.MailFiles.sound
    g.D.MailFiles.files
    (λ (file : Namesake). file.stamp.number ≢ c.args.listed.now.stamp.number) c.args.all.now c.loop-file.file-index c.file-item.result
    c.args.files.now c.loop-file.files in
    elim c.if-ne.branch [
      | then-ne+in_ok-remove_name w ↦ rw w.files-is (more w.remove_name.new.files c.loop-file-test.true c.file-item.is c.loop-file.invariant
          (λ _. w.in_ok-remove_name.ensures.removed) w.remove_name.ensures.takes)
      | else-ne w ↦ let same : c.file-item.result.stamp.number ≡ c.args.listed.now.stamp.number = first_of
          (search rules, grind (arith, common_steps)) in
          rw w.files-is (more c.loop-file.files c.loop-file-test.true c.file-item.is c.loop-file.invariant
          (λ is. absurd (is same)) (takes_none g.D.MailFiles.path g.D.MailFiles.looked g.D.MailFiles.removed
          g.D.MailFiles.sound
          g.D.MailFiles.files _ c.loop-file.files))
    ]
