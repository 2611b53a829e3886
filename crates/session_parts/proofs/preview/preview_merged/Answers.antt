use Rattle.std.proofs.{Common.{Bool, List, ap, length, ◌∙◌}, lemmas.Result.IfOk-weaker}
use Rattle.fetch_record.specs.{Intents.closed_rows, Record.{Loaded, merged}}
use Rattle.session_parts.{
  specs.MessagePreview.message_previews,
  proofs.{ReadyLemmas.{by_ids_length, planned_length}, SessionLemmas.previews_are},
}
use Rattle.session_parts.proofs.preview.preview_merged.Goals as goal

pub message_previews-requires-clause-all_steps : goal.message_previews-requires-clause-all_steps
message_previews-requires-clause-all_steps g c =
    let by = c.requires.1 in
    ap length (c.deref-2.ensures.value ∙ c.in_ok-steps.ensures by.0 (c.deref.ensures.value ∙ by.1))
    ∙ planned_length c.args.terms.settings.now by.0 c.merge.new.self.rows c.args.listing.now c.args.terms.now

pub message_previews-requires-clause-all_flags : goal.message_previews-requires-clause-all_flags
message_previews-requires-clause-all_flags g c = ap length c.deref-held.ensures.value ∙ c.requires.0

pub plan_without-requires : goal.plan_without-requires
plan_without-requires g c = ap length c.deref.ensures.value ∙ by_ids_length _ _ c.requires.1

pub returns : goal.returns
returns g c = λ is_odd are.
    let settings = c.args.terms.settings.now in
    let now = c.args.terms.now in
    let items = c.args.listing.now in
    let ended = closed_rows c.args.found.now.stored c.args.seen.now.rows c.args.seen.now.intent in
    let rows = ap (λ (seen : Loaded). seen.rows) c.in_ok-merge.ensures.after
    ∙ ap (λ (seen : Loaded). merged seen.rows items c.deref-held.result.now now) c.close.ensures.after
    ∙ ap (λ (flags : List Bool). merged ended items flags now) c.deref-held.ensures.value in
    IfOk-weaker c.message_previews.result _ _
    (λ told is. is ∙ ap (λ (flags : List Bool). message_previews settings c.merge.new.self.rows now c.deref-2.result.now
    items flags) c.deref-held.ensures.value
    ∙ previews_are settings is_odd ended _ items c.args.found.now.held.items now c.deref-2.result.now rows (c.deref-2.ensures.value
    ∙ c.in_ok-steps.ensures is_odd (c.deref.ensures.value ∙ are))) c.message_previews.ensures
