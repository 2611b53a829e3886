use Rattle.std.proofs.{
  Common.{◌≡◌, ◌∙◌, ℕ, ◌∷◌, ◌++◌, [], ap, sym, map, rules, String, string_bytes, Vec, Global},
  lemmas.List.{append_assoc, map-append},
}
use Rattle.mail_store.specs.{Maildir.memory_file, MemoryMaildir.shown}
use Rattle.mail_store.proofs.maildir.memory.MemoryMaildir.put.Goals as goal

pub returns-clause-puts : goal.returns-clause-puts
returns-clause-puts c =
    let cur = map memory_file c.self.inside.in_cur.items in
    let old = c.self.inside.in_new.items in
    let one : String Global × Vec ℕ Global = (c.in_ok-name.name, c.args.content) in
    let pushed : c.push.new.self.items ≡ old ++ one ∷ [] = search rules in
    let named : string_bytes c.in_ok-name.name ≡ c.args.name.now = search rules in
    let files : map memory_file c.push.new.self.items ≡ map memory_file old ++ memory_file one ∷ [] =
    ap (map memory_file) pushed ∙ map-append memory_file old (one ∷ []) in
    let all : map shown (cur ++ map memory_file c.push.new.self.items)
    ≡ map shown (cur ++ map memory_file old) ++ shown (memory_file one) ∷ [] =
    ap (λ new. map shown (cur ++ new)) files ∙ ap (map shown) (sym (append_assoc cur (map memory_file old) (memory_file one ∷ [])))
    ∙ map-append shown (cur ++ map memory_file old) (memory_file one ∷ []) in
    rw (← c.self.view_is, all, files, named)
