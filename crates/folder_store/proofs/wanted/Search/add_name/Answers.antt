use Rattle.std.proofs.Common.{◌∙◌, map, string_bytes, sym}
use Rattle.folder_store.proofs.Searching.{name_told, not_told}
use Rattle.folder_store.proofs.wanted.Search.add_name.Goals as goal

pub returns-in_default-clause-adds : goal.returns-in_default-clause-adds
returns-in_default-clause-adds c =
    not_told c.args.self.now.wanted c.args.name.now (map string_bytes c.args.found.now.items) c.in_default.ensures.cases.0

pub returns-in_ok-push-clause-adds : goal.returns-in_ok-push-clause-adds
returns-in_ok-push-clause-adds c = rw c.in_ok-push.ensures.items (name_told c.args.self.now.wanted c.args.name.now c.in-Ok.text.now
    c.args.found.now.items c.in_ok-from_str.field-0 c.in-Ok.ensures.cases.0 (sym c.is_hidden_name.ensures ∙ c.if-is_hidden_name.false)
    c.in-Ok.ensures.cases.1 (sym c.in_ok-has.ensures.has ∙ c.if-branch.true) c.in_ok-from_str.ensures.ok)
