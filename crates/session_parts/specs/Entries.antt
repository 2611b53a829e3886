-- The calls by which the entry of a text is appended to an mboxrd file, and what they leave of it and of the record's.
use Rattle.std.specs.Prelude.{◌≡◌, ◌⊎◌, ◌+◌, ℕ, List, Option, Some, Result, Ok, Err, if◌then◌else◌}
use Rattle.mail_store.specs.{
  declared.fault.{StoreFault.StoreFault, EntryFault.{EntryFault, TheVariants.{Nothing, Front}}},
  Devices.KnownFile,
  DiskCalls.FlushesDisk,
  Durable.seen_on,
  Fault.is_refusal,
  FlatFile.Fails,
  MboxCalls.AppendsEntry,
}
use Rattle.fetch_record.specs.Record.{Row, Intent}
use Rattle.session_parts.specs.{
  declared.fault.{Fault.{Fault, TheVariants.StoreRefused}, Why.TheVariants.Refused},
  Mbox.{IsStoreFault, intent_of},
  Record.{CutsRecord, Intends},
}

-- the size of a file with these bytes was told; or there is no file, or the call was refused
abbrev pub Sizes : KnownFile → Result (List ℕ) StoreFault → KnownFile → Type 0
Sizes old (Ok was) new = (seen_on old.disk ≡ Some was) × FlushesDisk {T = Unit {0}} old.disk (Ok tt) new.disk
    × (new.refusals ≡ old.refusals)
Sizes old (Err why) new = Fails (seen_on old.disk) why × FlushesDisk {T = Unit {0}} old.disk (Err why) new.disk
    × (new.refusals ≡ (if is_refusal why then old.refusals + 1 else old.refusals))

-- how many calls of an append were refused
abbrev pub refused_calls : Result (Unit {0}) EntryFault → ℕ
refused_calls (Ok done) = 0
refused_calls (Err (Nothing why)) = if is_refusal why then 1 else 0
refused_calls (Err Front) = 2

-- the entry was appended, or that was refused, and the refused calls are counted
abbrev pub EntersText : KnownFile → List ℕ → Result (Unit {0}) EntryFault → KnownFile → Type 0
EntersText old text result new = AppendsEntry old.disk text result new.disk
    × (new.refusals ≡ old.refusals + refused_calls result)

-- the size of an mboxrd file was told, and the intent of a text's entry written to the record
pub record IsAnnounced (rows : List Row) (uid text : List ℕ) (mbox file look : KnownFile) (size : ℕ) (file' : KnownFile)
    : Type 0 where
  pub was : List ℕ
  pub sizes : Sizes mbox (Ok was) look
  pub intends : Intends rows (intent_of was uid text) file (Ok size) file'

-- and then the entry was appended; or a front of it, which couldn't be cut off; or nothing of it, and the intent closed
abbrev pub EntryFails : List ℕ → KnownFile → KnownFile → ℕ → Fault → KnownFile → KnownFile → Type 0
EntryFails text look file size fault mbox' file' =
    (EntersText look text (Err Front) mbox' × (file' ≡ file) × (fault ≡ StoreRefused Refused))
    ⊎ ((why : StoreFault) × EntersText look text (Err (Nothing why)) mbox' × CutsRecord size file tt file'
    × IsStoreFault why fault)

-- the entry of a text was appended, once its intent was written down; or the mboxrd file didn't tell its size; or the
-- intent wasn't written; or the entry not appended
abbrev pub WritesEntry : List Row → List ℕ → List ℕ → KnownFile → KnownFile → Result (Unit {0}) Fault → KnownFile
    → KnownFile → Option Intent → Type 0
WritesEntry rows uid text mbox file (Ok done) mbox' file' opened = (look : KnownFile) × (size : ℕ)
    × (i : IsAnnounced rows uid text mbox file look size file') × EntersText look text (Ok tt) mbox'
    × (opened ≡ Some (intent_of i.was uid text))
WritesEntry rows uid text mbox file (Err fault) mbox' file' opened =
    ((why : StoreFault) × Sizes mbox (Err why) mbox' × (file' ≡ file) × IsStoreFault why fault)
    ⊎ (((was : List ℕ) × Sizes mbox (Ok was) mbox' × Intends rows (intent_of was uid text) file (Err fault) file')
    ⊎ ((look : KnownFile) × (size : ℕ) × (mid : KnownFile) × IsAnnounced rows uid text mbox file look size mid
    × EntryFails text look mid size fault mbox' file'))
