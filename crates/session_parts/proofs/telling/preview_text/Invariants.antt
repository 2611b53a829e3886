use Rattle.std.{proofs.Common.{◌≡◌, ◌++◌, take, flat_map}, specs.String.string_bytes}
use Rattle.session_parts.specs.{Telling.message_preview_text, Text.heading}
use Rattle.session_parts.proofs.telling.preview_text.Given as goal

abbrev pub invariant-loop-message_preview : goal.invariant-loop-message_preview
invariant-loop-message_preview l = string_bytes l.text ≡ heading l.settings ++ flat_map
    (message_preview_text l.preview.total) (take l.message_preview-index l.message_preview-items)
