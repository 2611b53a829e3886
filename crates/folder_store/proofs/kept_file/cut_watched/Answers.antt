use Rattle.std.proofs.Common.{rules}
use Rattle.folder_store.proofs.Watching.{seen_after, seen_as_left, unseen_after}
use Rattle.folder_store.proofs.kept_file.cut_watched.Goals as goal

pub returns-then-not-watches-clause-watches : goal.returns-then-not-watches-clause-watches
returns-then-not-watches-clause-watches g c = (
  c.args.changed.now.file,
  c.check.new.self.left,
  c.in_ok-check.ensures.watches,
  seen_as_left (g.C.File.OpenHandle.told c.args.changed.now.file) c.args.watch.now.watches c.args.watch.now.left
      c.check.new.self.left c.in_ok-found.found c.in_ok-check.field-0 c.in_ok-found.ensures.tells c.in_ok-check.ensures.checks,
  unseen_after (g.C.File.OpenHandle.told c.args.changed.now.file) c.args.watch.now.watches c.check.new.self.left (search rules),
)

pub returns-clause-watches : goal.returns-clause-watches
returns-clause-watches g c = (
  c.args.changed.now.file,
  c.check.new.self.left,
  search rules,
  seen_as_left (g.C.File.OpenHandle.told c.args.changed.now.file) c.args.watch.now.watches c.args.watch.now.left
      c.check.new.self.left c.in_ok-found.found c.in_ok-check.field-0 c.in_ok-found.ensures.tells c.in_ok-check.ensures.checks,
  seen_after (g.C.File.OpenHandle.told c.args.changed.now.file) c.args.watch.now.watches c.check.new.self.left
      c.leave.new.self.left c.in_ok-fstat.field-0 c.in_ok-fstat.ensures.tells (search rules) (search rules),
)
