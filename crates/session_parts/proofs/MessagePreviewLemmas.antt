-- What a preview says of a listing, message by message.
use Rattle.std.proofs.{
  Common.{◌≡◌, ◌<◌, ◌≤◌, ◌+◌, ℕ, Bool, List, ◌∷◌, [], ◌++◌, append_assoc, append-nil, drop, get_or, length, add-one, refl, sym, ap, ◌∙◌},
  Common.{arith, drop-cons, false, None},
  lemmas.List.drop_all,
}
use Rattle.mail_terms.specs.Listing.{Item}
use Rattle.rc_file.specs.declared.settings.Settings.{Settings}
use Rattle.fetch_record.specs.Record.{Row}
use Rattle.fetch_rules.specs.declared.plans.Step.{Step}
use Rattle.session_parts.{
  specs.{declared.message_preview.MessagePreview.MessagePreview, MessagePreview.{message_preview_of, message_previews}},
  proofs.ReadyLemmas.{empty_item, step_at},
}

module _ (settings : Settings) (rows : List Row) (now : ℕ) where
  -- the preview has the first i messages
  pub record IsTold (steps : List Step) (items : List Item) (flags : List Bool) (i : ℕ) (told : List MessagePreview) : Type 0 where
    pub so_far : told ++ message_previews settings rows now (drop i steps) (drop i items) (drop i flags)
        ≡ message_previews settings rows now steps items flags

  pub told_more : (steps : List Step) (items : List Item) (flags : List Bool) (i : ℕ) (told : List MessagePreview)
      (p : MessagePreview) → IsTold steps items flags i told → i < length items → length steps ≡ length items → length flags ≡ length items
      → p ≡ message_preview_of settings rows now (step_at steps i) (get_or items i empty_item) (get_or flags i false)
      → IsTold steps items flags (i + 1) (told ++ p ∷ [])
  told_more steps items flags i told p was within all_steps all_flags p_is = record {
    so_far = append_assoc told (p ∷ []) _ ∙ ap (λ (l : List MessagePreview). told ++ l) (sym split) ∙ was.so_far;
  }
    where
      split : message_previews settings rows now (drop i steps) (drop i items) (drop i flags)
          ≡ p ∷ message_previews settings rows now (drop (i + 1) steps) (drop (i + 1) items) (drop (i + 1) flags)
      split =
          let of_steps = drop-cons steps i (record { number = 0; skip = None; delete = false }) (omega (arith, within, all_steps)) in
          let of_items = drop-cons items i empty_item within in
          let of_flags = drop-cons flags i false (omega (arith, within, all_flags)) in
          rw (of_steps, of_items, of_flags, p_is, add-one) refl

  pub told_all : (steps : List Step) (items : List Item) (flags : List Bool) (i : ℕ) (told : List MessagePreview)
      → IsTold steps items flags i told → length steps ≤ i → told ≡ message_previews settings rows now steps items flags
  told_all steps items flags i told was past =
      sym (append-nil told) ∙ ap (λ (ss : List Step). told ++ message_previews settings rows now ss
      (drop i items) (drop i flags)) (sym (drop_all i steps past)) ∙ was.so_far
