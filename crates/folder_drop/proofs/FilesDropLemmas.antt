-- What each call of a maildrop over the files of a Maildir does.
use Rattle.std.{
  proofs.Common.{◌≡◌, ◌⊎◌, ◌<◌, ◌+◌, ◌==◌, ◌∙◌, ℕ, List, None, Ok, Err, Result, true, false, ap, arith, inl, inr, map, refl},
  proofs.Common.{slice_set, Some, subst, sym, ⊎_elim},
  proofs.lemmas.Bool.Decides.eqb_tells,
  specs.Prelude.{Option, Vec},
}
use Rattle.mail_terms.specs.FailureCount.{Tallies, counted_up, greatest_count}
use Rattle.pop3_wire.specs.World.{Message}
use Rattle.pop3_server.specs.{
  declared.maildrop.DropFault.{DropFault, TheVariants.{NoMemory, Refused}},
  Maildrop.{
    DropMail,
    FailsReading,
    ListedMessage,
    ListsMessages,
    Removes,
    asked,
    is_drop_refusal,
    listed_message,
    refusing,
    removed,
    there,
  },
}
use Rattle.folder_drop.specs.{
  declared.{listed_file.ListedFile.ListedFile, removal.TwoMessages.TwoMessages},
  FilesMail.{FilesMail, TakesSlot, mail_of},
  MaildirMail.{messages_of, slots_of},
  MailFiles.DropFile,
}
use Rattle.folder_drop.proofs.KnownLemmas.{there_all}

counted : (old new : ℕ) → new < greatest_count → new ≡ counted_up old → (old < greatest_count) × (new ≡ old + 1)
counted old new below is = elim (eqb_tells old greatest_count) [
  | inl (most, at) ↦ absurd (omega (arith, below, rw most at is, at))
  | inr (less, _) ↦ let one : new ≡ old + 1 = rw less at is in (omega (arith, below, one), one)
]

module _ {D : Type 0} (sound : D → Type 0) (files : D → List DropFile) where
  abbrev IsSound : FilesMail D → Type 0
  IsSound drop = sound drop.files × (drop.failures < greatest_count)

  -- a call that only reads was refused, or memory ran out
  pub fails_reading : (fault : DropFault) (old new : FilesMail D) → new ≡ record old { failures = new.failures }
      → Tallies (is_drop_refusal fault) old.failures new.failures → IsSound new
      → sound old.files × (old.failures < greatest_count) × FailsReading (mail_of files old) fault (mail_of files new)
  fails_reading Refused old new same tally s =
      let count = counted old.failures new.failures s.1 tally in (
        subst sound (ap (λ (drop : FilesMail D). drop.files) same) s.0,
        count.0,
        ap (mail_of files) same ∙ ap (λ (n : ℕ). record (mail_of files old) { failures = n }) count.1,
      )
  fails_reading NoMemory old new same tally s = (
    subst sound (ap (λ (drop : FilesMail D). drop.files) same) s.0,
    subst (λ (n : ℕ). n < greatest_count) tally s.1,
    ap (mail_of files) same ∙ ap (λ (n : ℕ). record (mail_of files old) { failures = n }) tally,
  )

  -- the counts are as they were, and the files and those that were listed may be others
  same_mail : (old new : FilesMail D) → slots_of (files new.files) new.listed ≡ slots_of (files old.files) old.listed
      → new.failures ≡ old.failures → new.removals ≡ old.removals → mail_of files new ≡ mail_of files old
  same_mail old new slots failures removals = rw (slots, failures, removals) refl

  -- a listing failed
  pub fails_listing : (fault : DropFault) (old new : FilesMail D) → sound old.files → files new.files ≡ files old.files
      → new.listed ≡ old.listed → new.removals ≡ old.removals → Tallies (is_drop_refusal fault) old.failures new.failures
      → new.failures < greatest_count
      → sound old.files × (old.failures < greatest_count) × FailsReading (mail_of files old) fault (mail_of files new)
  fails_listing Refused old new s same listed removals tally below =
      let count = counted old.failures new.failures below tally in
      (s, count.0, rw (same, listed, removals, count.1) refl)
  fails_listing NoMemory old new s same listed removals tally below =
      (s, subst (λ (n : ℕ). n < greatest_count) tally below, rw (same, listed, removals, tally) refl)

  -- the messages were listed
  pub lists_messages : {Z : Type 0} (entries : Vec ListedMessage Z) (old new : FilesMail D)
      → files new.files ≡ files old.files → slots_of (files old.files) old.listed ≡ map Some (messages_of (files old.files))
      → slots_of (files new.files) new.listed ≡ map Some (messages_of (files new.files))
      → entries.items ≡ map listed_message (messages_of (files new.files)) → new.failures ≡ old.failures
      → new.removals ≡ old.removals → ListsMessages (mail_of files old) (Ok entries) (mail_of files new)
  lists_messages entries old new same before after items failures removals =
      let messages = messages_of (files old.files) in
      let all : there (slots_of (files old.files) old.listed) ≡ messages = ap there before ∙ there_all messages in
      let now : messages_of (files new.files) ≡ messages = ap messages_of same in (
        rw (failures, removals) (ap (λ (slots : List (Option Message)).
            record (mail_of files old) { slots = slots }) (after ∙ ap (map Some) (now ∙ sym all))),
        items ∙ ap (map listed_message) (now ∙ sym all),
      )

  -- a removal was refused before it began
  pub refuses_removal : (old new : FilesMail D) → sound old.files → files new.files ≡ files old.files → new.listed ≡ old.listed
      → new.removals ≡ counted_up old.removals → new.failures ≡ old.failures + 1
      → mail_of files new ≡ refusing (asked (mail_of files old))
  refuses_removal old new s same listed removals failures = rw (same, listed, removals, failures) refl

  -- the message at a place was removed, or maybe not
  pub removes : {E : Type 0} (told : Result (Option TwoMessages) E) (i : ℕ) (old new : FilesMail D)
      → TakesSlot (slots_of (files old.files) old.listed) i told (slots_of (files new.files) new.listed) → told ≡ Ok None
      → new.removals ≡ counted_up old.removals → new.failures ≡ old.failures
      → Removes (mail_of files old) i (Ok tt) (mail_of files new)
  removes told i old new takes done removals failures =
      let slots : slots_of (files new.files) new.listed ≡ slice_set (slots_of (files old.files) old.listed) i None = rw done at takes in
      rw (slots, removals, failures) refl

  either_slots : {E : Type 0} (told : Result (Option TwoMessages) E) (i : ℕ) (old new : List (Option Message)) → TakesSlot old i told new
      → (new ≡ old) ⊎ (new ≡ slice_set old i None)
  either_slots (Ok None) i old new takes = inr takes
  either_slots (Ok (Some two)) i old new takes = takes
  either_slots (Err error) i old new takes = takes

  pub removes_maybe : {E : Type 0} (told : Result (Option TwoMessages) E) (i : ℕ) (old new : FilesMail D)
      → TakesSlot (slots_of (files old.files) old.listed) i told (slots_of (files new.files) new.listed)
      → new.removals ≡ counted_up old.removals → new.failures ≡ counted_up old.failures → new.failures < greatest_count
      → (old.failures < greatest_count) × Removes (mail_of files old) i (Err Refused) (mail_of files new)
  removes_maybe told i old new takes removals failures below =
      let count = counted old.failures new.failures below failures in
      let made : List (Option Message) → DropMail =
      λ slots. record { slots = slots; failures = old.failures + 1; removals = counted_up old.removals } in (
        count.0,
        ⊎_elim (λ same. inl (rw (removals, count.1) (ap made same))) (λ gone. inr (rw (removals, count.1) (ap made gone)))
            (either_slots told i (slots_of (files old.files) old.listed) (slots_of (files new.files) new.listed) takes),
      )
