use Rattle.std.proofs.Common.{◌<◌, arith, length, map}
use Rattle.pop3_server.specs.Maildrop.{max_count}
use Rattle.folder_drop.{
  specs.RealMaildir.{id_of_name, listed_name, listed_names},
  proofs.MaildirLemmas.{listed_more, only_more, only_same, seen_more, seen_same},
  proofs.listing.ListedFiles.add.Goals.{in-Some+in_ok-insert, in_default},
}
use Rattle.folder_drop.proofs.listing.ListedFiles.add.Goals as goal

pub returns-clause-listed : goal.returns-clause-listed
returns-clause-listed c = λ next few small listed.
    let old = c.args.self.now.long_ids in
    let files = c.args.self.now.files.items in
    let ids = map id_of_name (listed_names files) in
    let id = id_of_name (listed_name c.args.file) in
    let ok = c.args.self.now.files.ok in
    let room : length files < max_count = omega (arith, few, ok) in
    elim c.match-long_id.branch [
      | in-Some+in_ok-insert w ↦
          let new = w.insert.new.self in
          let is_key = rw w.in-Some.is at next.is_key in
          let seen = seen_more old new w.in-Some.id ids id is_key.0 w.in_ok-insert.ensures.updates listed.keys in
          rw (c.in_ok-push.ensures.items, w.self-is) (listed_more old new c.args.long_id files c.args.file seen
          (only_more old new w.in-Some.id ids id is_key.0 w.in_ok-insert.ensures.updates listed.only) next room small listed)
      | in_default w ↦
          let other = rw w.in_default.is at next.is_key in
          let seen = seen_same old ids id listed.keys other in
          rw (c.in_ok-push.ensures.items, w.self-is) (listed_more old old c.args.long_id files c.args.file seen
          (only_same old ids id listed.only) next room small listed)
    ]
