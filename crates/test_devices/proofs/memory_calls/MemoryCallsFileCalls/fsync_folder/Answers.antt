use Rattle.std.proofs.Common.{◌∙◌, ℕ, List, ap, string_bytes}
use Rattle.folder_store.{
  specs.{Calls.{Tree, names_synced}, FileFolder.Directory, Under.{front_of, outside}},
  proofs.Refusing.joined_nothing,
}
use Rattle.test_devices.proofs.memory_calls.MemoryCallsFileCalls.fsync_folder.Goals as goal

pub returns : goal.returns
returns c = λ sound.
    let was = c.pass.new.self in
    let front = c.as_str-3.ensures.value ∙ c.into_string.ensures ∙ c.in_ok-push.ensures.ok ∙ joined_nothing _
    ∙ ap front_of (c.in_ok-front.ensures ∙ c.as_str-2.ensures.value) in
    let flushed = ap (λ (d : Directory). record { directory = d; turn = was.turn }) c.flush_names_under.ensures in
    let named = ap (λ (xs : List ℕ).
    record { directory = record was.files { older = outside xs was.files.older }; turn = was.turn }) front in
    (tt, flushed ∙ named ∙ ap (λ (t : Tree). names_synced t (string_bytes c.args.folder.now.path)) c.pass.ensures.same)
