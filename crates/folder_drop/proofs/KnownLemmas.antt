-- What is known of the files of a Maildir, and the maildrop that they are.
use Rattle.std.{
  proofs.Common.{◌≡◌, ◌⊎◌, ◌<◌, ◌≤◌, ◌∙◌, ◌∷◌, [], ℕ, List, Option, Some, None, Ok, Err, Result, true, false},
  proofs.Common.{ap, arith, cond, get_or, inl, inr, length, map, refl, suc, subst, sym, ⊎_elim},
  proofs.lemmas.{
    Bool.{cases_lt, false≢true},
    List.Elements.All-nil,
    Option.{none-some, same_Some, slice_get-get_or, slice_get-map},
  },
  specs.{List.{All, HoldsAt, slice_get}, Option.option_map, Prelude.{◌==◌, Bool, IfOk, IfSome, Vec, drop, take}},
}
use Rattle.pop3_wire.specs.World.{Message}
use Rattle.pop3_server.specs.Maildrop.{ListedMessage, listed_message, there}
use Rattle.folder_drop.specs.{
  declared.{
    folders_look.FoldersLook.FoldersLook,
    listed_file.ListedFile.ListedFile,
    maildir_drop.OpenText.OpenText,
    removal.TwoMessages.TwoMessages,
    seen_files.SeenFiles.SeenFiles,
  },
  FilesMail.{Knows, TakesSlot},
  FoldersLook.IsUnchanged,
  Listing.{FileListing, size_of_entry, size_of_file},
  MaildirMail.{IsKnown, IsListing, IsWholeText, WasListed, message_of, messages_of, own_file, slot_of, slots_of},
  MailFiles.{AreMailFiles, DropFile},
  OpenText.{IsOwnFrom, IsTextPart},
  RealMaildir.{AreAscending, id_of_name, listed_name, listed_names, uid_of},
  Removal.{SeesSince, TakesMessage},
}
use Rattle.folder_drop.proofs.{
  DropLemmas.still_was,
  MailLemmas.one_or_none,
  SlotLemmas.{known_left, slots_after, slots_are, slots_removed},
}

-- ---- what is known

abbrev IsNoListing : FileListing → Type 0
IsNoListing listing = (listing.files ≡ []) × ((later : FoldersLook) → IsUnchanged listing.look later → ⊥)

listing_slots : (files : List DropFile) (listed : List ListedFile) → IsListing files listed
    → slots_of files listed ≡ map Some (messages_of files)
listing_slots files [] is = refl
listing_slots files (listed ∷ more) is = is.slots

module _ {File : Type 0} (remaining : File → Option (List ℕ)) where
  abbrev IsOwnAt : List DropFile → FileListing → Option (OpenText File) → Type 0
  IsOwnAt files listing reading =
      IfSome reading (λ text. HoldsAt (λ listed. IsOwnFrom remaining files listed text) listing.files text.place)

  pub none_own : (files : List DropFile) (listing : FileListing) (reading : Option (OpenText File)) → reading ≡ None
      → IsOwnAt files listing reading
  none_own files listing reading none = subst (IsOwnAt files listing) (sym none) tt

  none_seen : (files : List DropFile) (since : SeenFiles) → since.are_removed ≡ false → SeesSince files since
  none_seen files since none begun = absurd (false≢true (sym none ∙ begun))

  -- nothing was listed yet
  pub knows_none : (files : List DropFile) (looked : FoldersLook → List DropFile → Type 0) (listing earlier : FileListing)
      (since : SeenFiles) (reading : Option (OpenText File)) → IsNoListing listing → WasListed looked earlier
      → since.are_removed ≡ false → reading ≡ None → Knows remaining files looked listing earlier since reading
  knows_none files looked listing earlier since reading listing_none was removed closed = record {
    known = subst (λ (l : List ListedFile). All (IsKnown files) l) (sym listing_none.0) (All-nil (IsKnown files));
    whole = λ _. ap (slots_of files) listing_none.0;
    was = inl listing_none;
    before = was;
    sees = none_seen files since removed;
    own = none_own files listing reading closed;
  }

  -- the same files after a look
  pub knows_looked : (old new : List DropFile) (looked more : FoldersLook → List DropFile → Type 0)
      (listing earlier later : FileListing) (since : SeenFiles) (reading : Option (OpenText File)) → new ≡ old
      → ((look : FoldersLook) (was : List DropFile) → looked look was → more look was) → WasListed more later
      → Knows remaining old looked listing earlier since reading → Knows remaining new more listing later since reading
  knows_looked old new looked more listing earlier later since reading same stays was knows = record {
    known = subst (λ (files : List DropFile). All (IsKnown files) listing.files) (sym same) knows.known;
    whole = λ none. subst (λ (files : List DropFile). slots_of files listing.files ≡ map Some (messages_of files)) (sym same)
        (knows.whole none);
    was = still_was looked more listing stays knows.was;
    before = was;
    sees = subst (λ (files : List DropFile). SeesSince files since) (sym same) knows.sees;
    own = subst (λ (files : List DropFile). IsOwnAt files listing reading) (sym same) knows.own;
  }

  -- another file is read in parts, or none
  pub knows_open : (files : List DropFile) (looked : FoldersLook → List DropFile → Type 0) (listing earlier : FileListing)
      (since : SeenFiles) (reading then : Option (OpenText File)) → IsOwnAt files listing then
      → Knows remaining files looked listing earlier since reading → Knows remaining files looked listing earlier since then
  knows_open files looked listing earlier since reading then own knows = record {
    known = knows.known;
    whole = knows.whole;
    was = knows.was;
    before = knows.before;
    sees = knows.sees;
    own = own;
  }

  -- the messages were listed anew
  pub knows_listed : (old new : List DropFile) (looked more : FoldersLook → List DropFile → Type 0)
      (listing earlier listed none : FileListing) (since : SeenFiles) (reading closed : Option (OpenText File)) → new ≡ old
      → WasListed more listed → IsListing new listed.files → IsNoListing none → closed ≡ None
      → Knows remaining old looked listing earlier since reading → Knows remaining new more listed none since closed
  knows_listed old new looked more listing earlier listed none since reading closed same was is is_none is_closed knows = record {
    known = λ k d fits. inl (is.known k d fits);
    whole = λ _. listing_slots new listed.files is;
    was = was;
    before = inl is_none;
    sees = subst (λ (files : List DropFile). SeesSince files since) (sym same) knows.sees;
    own = none_own new listed closed is_closed;
  }

  -- some files of a message were taken away
  pub knows_taken : (E : Type 0) (result : Result (Option TwoMessages) E) (old new : List DropFile)
      (looked more : FoldersLook → List DropFile → Type 0) (listing earlier : FileListing) (i : ℕ) (since then : SeenFiles)
      (reading closed : Option (OpenText File)) → AreMailFiles old → AreAscending (listed_names listing.files)
      → i < length listing.files → ((look : FoldersLook) (was : List DropFile) → looked look was → more look was)
      → then.are_removed ≡ true → SeesSince new then
      → HoldsAt (λ listed. TakesMessage listed old result new) listing.files i → closed ≡ None
      → Knows remaining old looked listing earlier since reading → Knows remaining new more listing earlier then closed
  knows_taken E result old new looked more listing earlier i since then reading closed whole ascending within stays begun sees takes
      is_closed knows = record {
        known = λ k d fits. known_left listing.files i d old new whole ascending within (takes d).0 knows.known k d fits;
        whole = λ none. absurd (false≢true (sym none ∙ begun));
        was = still_was looked more listing stays knows.was;
        before = still_was looked more earlier stays knows.before;
        sees = sees;
        own = none_own new listing closed is_closed;
      }

  -- a part was read, and the file is read on, or not
  pub knows_part : (files : List DropFile) (listing : List ListedFile) (i start count : ℕ) (piece : List ℕ)
      (kept left : Option (OpenText File)) → All (IsKnown files) listing → i < length listing
      → IfSome kept (λ before. HoldsAt (λ listed. IsOwnFrom remaining files listed before) listing before.place)
      → HoldsAt (λ listed. IsKnown files listed
      → IfSome kept (λ before. before.place ≡ i → IsOwnFrom remaining files listed before)
      → IsTextPart files listed start count piece × IfSome left (λ after. (after.place ≡ i) × IsOwnFrom remaining files listed after))
      listing i
      → IfSome left (λ after. HoldsAt (λ listed. IsOwnFrom remaining files listed after) listing after.place)
      × HoldsAt (λ listed. IsTextPart files listed start count piece) listing i
  knows_part files listing i start count piece None None known within own part =
      (tt, λ d. (part d (known i d within) tt).0)
  knows_part files listing i start count piece (Some before) None known within own part = (
    tt,
    λ d. (part d (known i d within) (λ same. subst (λ (k : ℕ). IsOwnFrom remaining files (get_or listing k d) before) same (own d))).0,
  )
  knows_part files listing i start count piece None (Some after) known within own part = (
    λ d. let on = (part d (known i d within) tt).1 in
        subst (λ (k : ℕ). IsOwnFrom remaining files (get_or listing k d) after) (sym on.0) on.1,
    λ d. (part d (known i d within) tt).0,
  )
  knows_part files listing i start count piece (Some before) (Some after) known within own part = (
    λ d. let on = (part d (known i d within)
        (λ same. subst (λ (k : ℕ). IsOwnFrom remaining files (get_or listing k d) before) same (own d))).1 in
        subst (λ (k : ℕ). IsOwnFrom remaining files (get_or listing k d) after) (sym on.0) on.1,
    λ d. (part d (known i d within) (λ same. subst (λ (k : ℕ). IsOwnFrom remaining files (get_or listing k d) before) same (own d))).0,
  )

-- ---- the messages at their places

abbrev head_of : {A : Type 0} → A → List A → A
head_of x [] = x
head_of x (y ∷ ys) = y

abbrev rest_of : {A : Type 0} → List A → List A
rest_of [] = []
rest_of (y ∷ ys) = ys

none_first : {A : Type 0} (x : A) (xs : List A) → [] ≡ x ∷ xs → ⊥
none_first x xs e = let long : 0 ≡ suc (length xs) = ap length e in omega (arith, long)

slot_then : (files : List DropFile) (listed : ListedFile) (message : Message) → slot_of files listed ≡ Some message
    → (message.uid ≡ id_of_name (listed_name listed)) × (message.size ≡ listed.size)
slot_then files listed message is = elim (one_or_none (own_file files listed)) [
  | inl some ↦ let same = same_Some message (message_of listed some.0) (sym is ∙ ap (option_map (message_of listed)) some.1) in
      (ap (λ (m : Message). m.uid) same, ap (λ (m : Message). m.size) same)
  | inr none ↦ absurd (none-some message (sym (ap (option_map (message_of listed)) none) ∙ is))
]

same_entry : (entry : ListedMessage) (message : Message) (uid : List ℕ) (size : ℕ) → entry.uid ≡ uid → entry.size ≡ size
    → message.uid ≡ uid → message.size ≡ size → entry ≡ listed_message message
same_entry entry message uid size a b c d = let made : List ℕ → ℕ → ListedMessage = λ u s. record { uid = u; size = s } in
    ap (λ (u : List ℕ). made u entry.size) (a ∙ sym c) ∙ ap (made message.uid) (b ∙ sym d)

pub entries_are : (files : List DropFile) (listed : List ListedFile) (messages : List Message) (entries : List ListedMessage)
    → map (slot_of files) listed ≡ map Some messages → map uid_of entries ≡ map id_of_name (listed_names listed)
    → map size_of_entry entries ≡ map size_of_file listed → entries ≡ map listed_message messages
entries_are files [] [] [] slots uids sizes = refl
entries_are files [] [] (e ∷ es) slots uids sizes = absurd (none_first (uid_of e) (map uid_of es) (sym uids))
entries_are files [] (m ∷ ms) entries slots uids sizes = absurd (none_first (Some m) (map Some ms) slots)
entries_are files (l ∷ ls) [] entries slots uids sizes = absurd (none_first (slot_of files l) (map (slot_of files) ls) (sym slots))
entries_are files (l ∷ ls) (m ∷ ms) [] slots uids sizes =
    absurd (none_first (id_of_name (listed_name l)) (map id_of_name (listed_names ls)) uids)
entries_are files (l ∷ ls) (m ∷ ms) (e ∷ es) slots uids sizes =
    let slot = slot_then files l m (ap (head_of (slot_of files l)) slots) in
    let first = same_entry e m (id_of_name (listed_name l)) l.size (ap (head_of (uid_of e)) uids) (ap (head_of e.size) sizes)
    slot.0 slot.1 in
    ap (λ (x : ListedMessage). x ∷ es) first
    ∙ ap (λ (xs : List ListedMessage). listed_message m ∷ xs) (entries_are files ls ms es (ap rest_of slots) (ap rest_of uids)
    (ap rest_of sizes))

-- what a listing lists
pub lists_files : {Z : Type 0} (files : List DropFile) (listed : List ListedFile) (entries : Vec ListedMessage Z)
    → IsListing files listed → map uid_of entries.items ≡ map id_of_name (listed_names listed)
    → map size_of_entry entries.items ≡ map size_of_file listed
    → (slots_of files listed ≡ map Some (messages_of files)) × (entries.items ≡ map listed_message (messages_of files))
lists_files files listed entries is uids sizes = (
  listing_slots files listed is,
  entries_are files listed (messages_of files) entries.items is.slots uids sizes,
)

pub there_all : (messages : List Message) → there (map Some messages) ≡ messages
there_all [] = refl
there_all (message ∷ more) = ap (λ (rest : List Message). message ∷ rest) (there_all more)

slot_at : (files : List DropFile) (listing : List ListedFile) (i : ℕ) (d : ListedFile) (own : DropFile) → i < length listing
    → own_file files (get_or listing i d) ≡ Some own
    → slice_get (slots_of files listing) i ≡ Some (Some (message_of (get_or listing i d) own))
slot_at files listing i d own within is =
    ap (λ (slots : List (Option Message)). slice_get slots i) (slots_are files listing (omega (arith, within)))
    ∙ slice_get-map (slot_of files) listing i
    ∙ ap (option_map (slot_of files)) (slice_get-get_or listing i d within)
    ∙ ap (λ (own : Option DropFile). Some (option_map (message_of (get_or listing i d)) own)) is

pub gives_text : (files : List DropFile) (listing : List ListedFile) (i : ℕ) (text : List ℕ) → i < length listing
    → HoldsAt (λ listed. IsWholeText files listed text) listing i
    → (message : Message) × (slice_get (slots_of files listing) i ≡ Some (Some message)) × (text ≡ message.text)
gives_text files [] i text within own = absurd (omega (arith, within))
gives_text files (l ∷ ls) i text within own = let is = own l in
    (message_of (get_or (l ∷ ls) i l) is.0, slot_at files (l ∷ ls) i l is.0 within is.1, is.2)

pub gives_part : (files : List DropFile) (listing : List ListedFile) (i start count : ℕ) (piece : List ℕ) → i < length listing
    → HoldsAt (λ listed. IsTextPart files listed start count piece) listing i
    → (message : Message) × (slice_get (slots_of files listing) i ≡ Some (Some message))
    × (take count piece ≡ take count (drop start message.text)) × (count ≡ 0 → length message.text ≤ start)
gives_part files [] i start count piece within part = absurd (omega (arith, within))
gives_part files (l ∷ ls) i start count piece within part = let is = part l in
    (message_of (get_or (l ∷ ls) i l) is.0, slot_at files (l ∷ ls) i l is.0 within is.1, is.2, is.3)

pub takes_slot : (E : Type 0) (result : Result (Option TwoMessages) E) (listing : List ListedFile) (i : ℕ) (d : ListedFile)
    (old new : List DropFile) → AreMailFiles old → AreAscending (listed_names listing) → All (IsKnown old) listing → i < length listing
    → TakesMessage (get_or listing i d) old result new → TakesSlot (slots_of old listing) i result (slots_of new listing)
takes_slot E (Ok None) listing i d old new whole ascending known within takes =
    slots_removed E listing i d old new whole ascending known within takes
takes_slot E (Ok (Some two)) listing i d old new whole ascending known within takes =
    slots_after listing i d old new whole ascending known within takes.0
takes_slot E (Err error) listing i d old new whole ascending known within takes =
    slots_after listing i d old new whole ascending known within takes.0

-- an error that came before any removal
pub takes_nothing : (E : Type 0) (result : Result (Option TwoMessages) E) (n : ℕ) (old new : List (Option Message)) (i : ℕ)
    → n ≤ i → IfOk result (λ _. i < n) → new ≡ old → TakesSlot old i result new
takes_nothing E (Ok None) n old new i beyond within same = absurd (omega (arith, beyond, within))
takes_nothing E (Ok (Some two)) n old new i beyond within same = inl same
takes_nothing E (Err error) n old new i beyond within same = inl same

takes_at : (E : Type 0) (result : Result (Option TwoMessages) E) (listing : List ListedFile) (i : ℕ) (old new : List DropFile)
    → AreMailFiles old → AreAscending (listed_names listing) → All (IsKnown old) listing → i < length listing
    → HoldsAt (λ listed. TakesMessage listed old result new) listing i
    → TakesSlot (slots_of old listing) i result (slots_of new listing)
takes_at E result [] i old new whole ascending known within takes = absurd (omega (arith, within))
takes_at E result (l ∷ ls) i old new whole ascending known within takes =
    takes_slot E result (l ∷ ls) i l old new whole ascending known within (takes l)

pub ok_within : {T E : Type 0} (P : T → Type 0) (result : Result T E) (i n : ℕ) → IfOk result (λ it. (i < n) × P it)
    → IfOk result (λ _. i < n)
ok_within P (Ok it) i n is = is.0
ok_within P (Err error) i n is = tt

-- after a call to remove a message
pub knows_removed : {File : Type 0} (remaining : File → Option (List ℕ)) (E : Type 0) (result : Result (Option TwoMessages) E)
    (old new : List DropFile) (looked more : FoldersLook → List DropFile → Type 0) (listing earlier : FileListing) (i : ℕ)
    (since after : SeenFiles) (reading : Option (OpenText File)) → AreMailFiles old → AreAscending (listed_names listing.files)
    → ((look : FoldersLook) (was : List DropFile) → looked look was → more look was)
    → IfOk result (λ _. i < length listing.files) → (i < length listing.files → after.are_removed ≡ true)
    → (length listing.files ≤ i → (new ≡ old) × (after ≡ since))
    → (SeesSince old since → SeesSince new after × HoldsAt (λ listed. TakesMessage listed old result new) listing.files i)
    → Knows remaining old looked listing earlier since reading
    → Knows remaining new more listing earlier after None × TakesSlot (slots_of old listing.files) i result (slots_of new listing.files)
knows_removed {File} remaining E result old new looked more listing earlier i since after reading whole ascending stays ok begun beyond
    takes knows = ⊎_elim
    (λ (within : i < length listing.files). let took = takes knows.sees in (
      knows_taken remaining E result old new looked more listing earlier i since after reading None whole ascending within stays
          (begun within) took.0 took.1 refl knows,
      takes_at E result listing.files i old new whole ascending knows.known within took.1,
    ))
    (λ (past : length listing.files ≤ i). let same = beyond past in (
      subst (λ (seen : SeenFiles). Knows remaining new more listing earlier seen None) (sym same.1)
          (knows_looked remaining old new looked more listing earlier earlier since None same.0 stays
          (still_was looked more earlier stays knows.before)
          (knows_open remaining old looked listing earlier since reading None tt knows)),
      takes_nothing E result (length listing.files) (slots_of old listing.files) (slots_of new listing.files) i past ok
          (ap (λ (files : List DropFile). slots_of files listing.files) same.0),
    ))
    (cases_lt i (length listing.files))

either : {A : Type 0} (b : Bool) (x y : A) → (cond b x y ≡ y) ⊎ (cond b x y ≡ x)
either true x y = inr refl
either false x y = inl refl

pub renewed_was : (looked more : FoldersLook → List DropFile → Type 0) (last earlier newer : FileListing)
    → ((look : FoldersLook) (was : List DropFile) → looked look was → more look was)
    → newer ≡ cond (length last.files == 0) earlier last
    → WasListed looked last → WasListed looked earlier → WasListed more newer
renewed_was looked more last earlier newer stays is was before = ⊎_elim
    (λ same. subst (WasListed more) (sym (is ∙ same)) (still_was looked more last stays was))
    (λ same. subst (WasListed more) (sym (is ∙ same)) (still_was looked more earlier stays before))
    (either (length last.files == 0) earlier last)
