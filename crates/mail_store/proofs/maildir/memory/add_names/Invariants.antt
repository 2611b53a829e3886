use Rattle.std.proofs.Common.{map, ◌≡◌, ◌++◌, take, string_bytes}
use Rattle.mail_store.specs.Maildir.{names_of, memory_file}
use Rattle.mail_store.proofs.maildir.memory.add_names.Given as goal

-- the names added so far are those of the files so far
abbrev pub invariant-loop-name : goal.invariant-loop-name
invariant-loop-name l = map string_bytes l.names.items
    ≡ map string_bytes l.initial.names.items ++ names_of (map memory_file (take l.name-index l.files))
