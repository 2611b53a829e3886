use Rattle.folder_store.specs.{MailCalls.Learns, Sound.WhereFilesSound}
use Rattle.folder_store.proofs.durable_names.list_both.Given as goal

abbrev pub invariant-loop-times : goal.invariant-loop-times
invariant-loop-times g l = WhereFilesSound g.F.MailFolders.sound g.F.MailFolders.directories l.initial.folders l.folders Learns
