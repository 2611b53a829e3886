use Rattle.std.proofs.Common.{◌≡◌, ◌∙◌, ◌++◌, ℕ, List, ap, string_bytes}
use Rattle.std.specs.Path.{with_separator}
use Rattle.folder_store.proofs.Refusing.{joined_nothing}
use Rattle.folder_store.proofs.host_paths.HostPaths.file_path.Goals as goal

pub returns-clause-path : goal.returns-clause-path
returns-clause-path c = c.in_ok-push_str-2.ensures.bytes
    ∙ ap (λ (xs : List ℕ). xs ++ c.args.suffix.now) (c.in_ok-push_str.ensures.bytes
    ∙ ap (λ (xs : List ℕ). xs ++ c.args.name.now) (c.into_string-path.ensures ∙ c.in_ok-push.ensures.ok
    ∙ joined_nothing _ ∙ ap (λ (xs : List ℕ). with_separator xs) c.in_ok-path.ensures.path))
