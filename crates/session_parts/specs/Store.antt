-- What storing one text does.
use Rattle.std.specs.{
  Prelude.{◌≡◌, ◌⊎◌, ◌≤◌, ℕ, Bool, false, List, [], ◌∷◌, ◌++◌, length, Option, None, Some, Result, Ok, Err, option_map},
  List.flat_map,
}
use Rattle.mail_store.specs.{
  FlatFile.Stored,
  Mboxrd.entry_of,
  FileName.{sized, sized_file},
  Maildir.{AllNamed, IsThere, Maildir, File, Draft, MayHave, draft, mail, with_file, dropped, maildir_refused},
}
use Rattle.session_parts.specs.{
  Target.{Target, AsFiles, AsEntries, Stores},
  Task.{Done, files_of, done_texts},
  declared.fault.{Cut.Cut, Fault.{Fault, TheVariants.StoreRefused}, Why.TheVariants.{Missing, Refused}},
  Fault.Breaks,
}
use Rattle.pop3_wire.specs.{
  Link.WhereSound,
  Place.Place,
  Bodies.Rest,
  declared.wire.Wire.Ghosts as WireGhosts,
  Reading.WholeReply,
  declared.unstuffer.Spot.TheVariants.Done as AtEnd,
}
use Rattle.pop3_client.specs.{
  Client.place_of,
  Conversation.{Talked, Broke},
  Turns.retr,
  declared.{client.Client.Client, fault.ClientFault.ClientFault},
  Texts.{Fetching, Fetched, body_text},
}

-- these files came after the others; no other changed or was taken, the same names are odd, and the same folders are
-- there
pub record Gained (old new : Maildir) (files : List File) : Type 0 where
  pub came : new.files ≡ old.files ++ files
  pub taken : new.taken ≡ old.taken
  pub odd : new.odd ≡ old.odd
  pub there : new.there ≡ old.there
  pub none_begun : old.begun ≡ None → new.begun ≡ None
  pub failures : old.failures ≤ new.failures

-- these texts were appended, each as an entry, and nothing else changed
pub record Appended (old new : Stored) (texts : List (List ℕ)) : Type 0 where
  pub content : new.content ≡ option_map (λ (was : List ℕ). was ++ flat_map entry_of texts) old.content
  pub failures : new.failures ≡ old.failures

-- what the texts of tasks that are done brought
abbrev pub Brings : Target → List Done → Stores → Stores → Type 0
Brings (AsFiles account) dones old new = Gained old.maildir new.maildir (files_of account dones)
Brings AsEntries dones old new = Appended old.mbox new.mbox (done_texts dones)

-- at most a file with this stem and its length in its name came, whose name may not be durable, and none is begun
pub record MayGain (stem : List ℕ) (old new : Maildir) : Type 0 where
  pub none_begun : new.begun ≡ None
  pub came : (new.files ≡ old.files)
      ⊎ ((content : List ℕ) × (is_named : Bool)
      × (new.files ≡ old.files ++ record (sized_file stem content) { is_named = is_named } ∷ []))

-- ---- a text, piece by piece

-- a text may be stored in a Maildir under any name of this stem: no file is begun, none bears one, and each name there
-- is durable
pub record IsFreeFor (stem : List ℕ) (maildir : Maildir) : Type 0 where
  pub none_begun : maildir.begun ≡ None
  pub not_there : (size : ℕ) → IsThere maildir (sized stem size) → ⊥
  pub named : AllNamed maildir.files

-- what is known of the rest of a text that was taken from a link, if that is sound after it, of each text that was
-- under way before
abbrev pub TakesOn : {W : Type 0} → WireGhosts W → Client W → Rest → (ℕ → Place → Place → Type 0) → Client W → Type 0
TakesOn link client body Does client' = WhereSound link.sound link.leads_to client.wire.now client'.wire.now
    ((number : ℕ) (start : Place) → Fetching (retr number) start (place_of link client) body []
    → Does number start (place_of link client'))

-- this file is being written
abbrev pub begun_with : Maildir → Draft → Maildir
begun_with old d = record old { begun = Some d }

-- an empty file of this name is being written, or none is
abbrev pub StartsFile : Maildir → List ℕ → Result (Unit {0}) Fault → Maildir → Type 0
StartsFile old name (Ok done) new = new ≡ begun_with old (draft name [])
StartsFile old name (Err fault) new = ((fault ≡ StoreRefused Missing) × (old.there.tmp ≡ false) × (new ≡ old))
    ⊎ ((fault ≡ StoreRefused Refused) × (new ≡ maildir_refused old))

-- the bytes were appended to the file that is being written, or none is any more
abbrev pub PutsBytes : Maildir → List ℕ → Result (Unit {0}) Fault → Maildir → Type 0
PutsBytes old bytes (Ok done) new = (d : Draft) → old.begun ≡ Some d
    → new ≡ begun_with old (draft d.name (d.content ++ bytes))
PutsBytes old bytes (Err fault) new = (fault ≡ StoreRefused Refused)
    × ((d : Draft) → old.begun ≡ Some d → new ≡ maildir_refused (dropped old))

-- what was written is there under this name and durable; or, refused, it may be there
abbrev pub EndsFile : Maildir → List ℕ → Result (Unit {0}) Fault → Maildir → Type 0
EndsFile old name (Ok done) new = (d : Draft) → old.begun ≡ Some d → new ≡ with_file old (mail name d.content)
EndsFile old name (Err fault) new = (fault ≡ StoreRefused Refused) × ((d : Draft) → old.begun ≡ Some d
    → (new ≡ maildir_refused (dropped old)) ⊎ MayHave old (mail name d.content) new)

-- the store refused a text of which this much has come: no file came, or, only if the text had come whole, its file
-- did, which a loss of power may take
abbrev pub RefusesText : Maildir → List ℕ → Rest → List ℕ → Fault → Maildir → Type 0
RefusesText old stem rest text fault new = ((fault ≡ StoreRefused Missing) × (old.there.tmp ≡ false) × (new ≡ old))
    ⊎ ((fault ≡ StoreRefused Refused) × ((new ≡ maildir_refused (dropped old))
    ⊎ ((rest.spot ≡ AtEnd) × MayHave old (sized_file stem text) new)))

-- the link stopped, and nothing was stored; or the store refused
abbrev pub StopsStoring : List ℕ → Maildir → List ℕ → Fault → Option Rest → Maildir → Type 0
StopsStoring stem old text fault None new = new ≡ old
StopsStoring stem old text fault (Some rest) new = RefusesText old stem rest text fault new

abbrev pub StoresText : List ℕ → Maildir → List ℕ → Result ℕ Cut → Maildir → Type 0
StoresText stem old text (Ok octets) new = (new ≡ with_file old (sized_file stem text)) × (octets ≡ length text)
StoresText stem old text (Err cut) new = StopsStoring stem old text cut.fault cut.rest new

-- the conversation broke; or the reply is under way, or whole
abbrev pub StopsReading : ℕ → Place → List ℕ → Fault → Option Rest → Place → Type 0
StopsReading number start text fault None new = Breaks (retr number) start new fault
StopsReading number start text fault (Some rest) new = Fetching (retr number) start new rest text
    × (rest.spot ≡ AtEnd → Fetched (retr number) start text new)

abbrev pub ReadsText : ℕ → Place → List ℕ → Result ℕ Cut → Place → Type 0
ReadsText number start text (Ok octets) new = Fetched (retr number) start text new
ReadsText number start text (Err cut) new = StopsReading number start text cut.fault cut.rest new

-- a text that is read and not stored: its length
abbrev pub PassesText : ℕ → Place → Result ℕ ClientFault → Place → Type 0
PassesText number start (Ok octets) new = (reply : WholeReply) × Talked (retr number ∷ []) (reply ∷ []) start new
    × (octets ≡ length (body_text reply.body))
PassesText number start (Err why) new = Broke (retr number) start new why
