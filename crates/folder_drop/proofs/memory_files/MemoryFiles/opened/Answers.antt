use Rattle.std.proofs.{Common.{◌<◌, length}, lemmas.{List.Elements.All-contains, Result.err_from_is_err_and}}
use Rattle.folder_drop.proofs.MemoryFilesLemmas.{has_file, now_known, nothing_bears, octets_of}
use Rattle.folder_drop.proofs.memory_files.MemoryFiles.opened.Goals as goal

pub returns-in_err-file : goal.returns-in_err-file
returns-in_err-file c =
    let p = err_from_is_err_and c.from_residual.result c.from_residual.ensures.1 in
    let none = c.in_err-file.ensures.err in
    rw (p.1, p.2) (none.0, nothing_bears c.args.self.now c.args.way.now (rw c.as_str.ensures.value at none.1))

pub found-requires : goal.found-requires
found-requires c =
    let d = c.args.self.now in
    All-contains (λ one. one.file < length d.files.items) d.names.items.items c.in_ok-file.field-0 (now_known d)
    c.in_ok-file.ensures.ok.0

pub index-requires : goal.index-requires
index-requires c =
    let d = c.args.self.now in
    rw d.files.ok.0 (All-contains (λ one. one.file < length d.files.items) d.names.items.items c.in_ok-file.field-0 (now_known d)
    c.in_ok-file.ensures.ok.0)

pub returns : goal.returns
returns c =
    let d = c.args.self.now in
    let one = c.in_ok-file.field-0 in
    let found = c.in_ok-file.ensures.ok in
    let within = All-contains (λ n. n.file < length d.files.items) d.names.items.items one (now_known d) found.0 in (
      has_file d c.args.way.now one c.found.result found.0 (rw c.as_str.ensures.value at found.1) c.found.ensures,
      (one.file, c.found.ensures, octets_of d.files.items one.file c.index.result.now within c.index.ensures),
    )
