-- What the witnesses say follows from the definitions.
use Rattle.std.{
  proofs.Common.{◌≡◌, ◌⊎◌, inl, inr, ◌&&◌, ℕ, false, true, List, [], ◌∷◌, map, length, refl, sym, ap, ◌∙◌, arith, Option, None, Some},
  proofs.{Math.{Logic.⊎_elim, Seq.take-append_seam}, Common.{not, bytes_eq}},
  proofs.lemmas.{Bool.cases_Bool, Slice.Eq.bytes_eq-Decides},
  specs.{List.{AllByRecursion, filter, list_any}, String.string_bytes},
}
use Rattle.pop3_wire.specs.{World.Message, declared.wire.Wire.Ghosts as WireGhosts}
use Rattle.mail_terms.specs.{Distinct.AreDistinct, UniqueId.{has_id, is_legal_id}}
use Rattle.rc_file.specs.declared.settings.Settings.{Settings}
use Rattle.mail_store.specs.{
  Devices.stored_in,
  Durable.{Blob, Trusted},
  FileName.{IsAccountText, is_held, name_of, names_id, stem_of},
  Maildir.{File, file as file_of},
  declared.{file.flat_file.FlatFile.Ghosts as FileGhosts, maildir.disk.MaildirDisk.Ghosts as DiskGhosts},
}
use Rattle.session_parts.specs.Account.{digits_of}
use Rattle.fetch_runs.{
  specs.{Accounts.{AccountMail, copies, message_ids, texts_of}, Below.Below, Losses.{IsFlushedFor, TrustsRecord}},
  specs.Promises.{ComesFor, IsMaildrop, is_safe},
  specs.Witnesses.{HaveNamedTexts, IsUndoubted, PremisesHold, mail_named},
  proofs.Core.IsLegal,
  proofs.Lists.{all_at, all_map, distinct_is, has_texts, is_some, no_texts},
  proofs.Promised.{copies_messages, held_copies, named_messages, one_text},
}

-- a file of each
abbrev its_file : List ℕ → Message → File
its_file account m = file_of (name_of account m.uid (length m.text)) m.text

-- each name is durable
all_named : (account id : List ℕ) (ms : List Message)
    → list_any (λ (f : File). names_id account id f.name && f.is_named) (map (its_file account) ms)
    ≡ list_any (λ (f : File). names_id account id f.name) (map (its_file account) ms)
all_named account id [] = refl
all_named account id (m ∷ ms) = grind (arith, all_named account id ms)

all_flushed : (account : List ℕ) (ms : List Message) → AllByRecursion (IsFlushedFor account) (map (its_file account) ms)
all_flushed account [] = tt
all_flushed account (m ∷ ms) = (λ id l is. refl, all_flushed account ms)

module _ (laws : Below) (settings : Settings) (text : List ℕ → List ℕ) (all : List Message)
    (each : HaveNamedTexts text all) (distinct : AreDistinct (message_ids all)) where
  pub account_is : IsAccountText (digits_of settings)
  account_is = laws.digits (string_bytes settings.server) settings.port (string_bytes settings.username)

  pub are : IsMaildrop (ComesFor (mail_named settings text)) all
  are = record {
    each = all_map _ each (λ m (legal, is). record { legal = legal; text = (bytes_eq-Decides m.text (text m.uid)).1 is });
    distinct = distinct;
  }

  legal : AllByRecursion IsLegal all
  legal = all_map _ each (λ m is. is.0)

  module _ (after : AccountMail) (files_are : after.maildir.files ≡ map (its_file (digits_of settings)) all) where
    copies_are : (id : List ℕ) → is_legal_id id ≡ true
        → copies after.maildir.files (stem_of (digits_of settings) id) ≡ texts_of all id
    copies_are id l = ap (λ fs. copies fs (stem_of (digits_of settings) id))
        (files_are ∙ sym (named_messages laws (digits_of settings) account_is all))
        ∙ copies_messages laws (digits_of settings) account_is all id l legal

    holds : (id : List ℕ) → is_legal_id id ≡ true
        → (copies after.maildir.files (stem_of (digits_of settings) id) ≡ [])
        ⊎ ((came : List ℕ) × ComesFor (mail_named settings text) id came
        × (copies after.maildir.files (stem_of (digits_of settings) id) ≡ came ∷ []))
    holds id l = ⊎_elim
        (λ there. let (came, comes, is) = one_text (ComesFor (mail_named settings text)) all (distinct_is all distinct) are.each id there in
        inr (came, comes, copies_are id l ∙ is))
        (λ none. inl (copies_are id l ∙ no_texts all id none))
        (cases_Bool (has_id (message_ids all) id))

    held_is : (id : List ℕ) → is_legal_id id ≡ true
        → is_held (digits_of settings) after.maildir id ≡ has_id (message_ids all) id
    held_is id l = held_copies (digits_of settings) after id ∙ ap is_some (copies_are id l) ∙ sym (has_texts all id)

trusted : (now : Option Blob) → ((b : Blob) → now ≡ Some b → b.is_doubted ≡ false) → Trusted now
trusted None undoubted = tt
trusted (Some b) undoubted = undoubted b refl

-- if there is a record, it is left
trusts : {F : Type 0} (files : FileGhosts F) (from left : F) (bytes : List ℕ) → IsUndoubted (files.disk from)
    → (stored_in files left).content ≡ Some bytes → TrustsRecord files from left
trusts files from left bytes undoubted there = (
  trusted (files.disk from).now undoubted,
  λ none. absurd (let never = sym there ∙ none in cc),
)

pub premises_hold : Below → {W D F : Type 0} (link : WireGhosts W) (disk : DiskGhosts D) (files : FileGhosts F)
    → PremisesHold link disk files
premises_hold laws link disk files = record {
  named = λ text all each. each;
  sound = λ settings text limit all each distinct. record {
    account = account_is laws settings text all each distinct;
    all = are laws settings text all each distinct;
    one = λ id one other a b. (bytes_eq-Decides one (text id)).0 a ∙ sym ((bytes_eq-Decides other (text id)).0 b);
  };
  in_order = λ mail state settings come later gone done. record {
    sizes = refl;
    come = length come;
    gone = gone;
    done = done;
    shown = ap (filter (λ (m : Message). not (list_any (bytes_eq m.uid) gone))) (sym (take-append_seam come later));
  };
  towards = λ call is_done all gone done shown new. record {
    gone = gone;
    done = done;
    shown = shown;
    limits = record { sizes = refl; number = refl };
    only_new = new;
  };
  others = λ settings text all state after from left each distinct files_are shows. (
    record {
      holds = holds laws settings text all each distinct after files_are;
      shows_no_more = shows;
    },
    λ safe id l held. all_at (λ x. is_safe (mail_named settings text) state x ≡ true) all safe
        (sym (held_is laws settings text all each distinct after files_are id l) ∙ held),
    λ leaves. record {
      named = λ id l was held.
          let there = rw files_are at held in
          rw files_are (all_named (digits_of settings) id all ∙ there);
      flushed = rw files_are (all_flushed (digits_of settings) all);
      record_is = leaves;
    },
  );
  trusts = λ from left bytes undoubted there. trusts files from left bytes undoubted there;
  trusts_mbox = λ from left bytes undoubted before after there. (
    trusts files from.file left.file bytes undoubted there,
    trusted (files.disk from.store).now before,
    trusted (files.disk left.store).now after,
    λ none. absurd (let never = sym there ∙ none in cc),
  );
  counts = λ from left calls kept outcome rows rows' trust.
      (inr (trust, inl refl), λ ended changed. inr (trust, inr (ended, changed, refl)));
  entries = λ base all each distinct. record {
    each = all_map _ each (λ m (legal, is, whole). record { legal = legal; text = (is, whole) });
    distinct = distinct;
  };
  unbegun = λ account id none other. (none, other);
}
