-- What the calls on an mboxrd file do, for either outcome.
use Rattle.std.specs.Prelude.{◌≡◌, ◌⊎◌, ℕ, List, ◌++◌, length, map, take, Option, Some, Result, Ok, Err, Vec}
use Rattle.std.specs.Prelude.{IfErr, OnOk}
use Rattle.mail_terms.specs.FailureCount.{Tallies, counted_up}
use Rattle.mail_store.specs.{
  declared.fault.EntryFault.{EntryFault, TheVariants.{Nothing, Front}},
  declared.fault.StoreFault.{StoreFault, TheVariants.{Refused, NotMbox, NoMemory}},
  declared.file.flat_file.Edges.Edges,
  Fault.is_refusal,
  DiskCalls.{AppendsDisk, CutsDisk, MayFlush, ReadsDisk, all_flushed},
  Durable.{Disk, IsDurable, MayLeave, Trusted, seen_on},
  Power.{KeepsWhole, LeavesPart},
  FlatFile.{Fails, edges_of},
  Mboxrd.{MayGoOn, MboxFile, HasNoTexts, entry_of},
}

-- the file has these bytes, and an entry may follow them
abbrev pub EntryMayFollow : Option (List ℕ) → List ℕ → Type 0
EntryMayFollow content was = (content ≡ Some was) × MayGoOn was

-- an entry may not follow the file's bytes
abbrev pub IsNoMbox : Option (List ℕ) → Type 0
IsNoMbox content = (was : List ℕ) × (content ≡ Some was) × (MayGoOn was → ⊥)

-- a file that was only looked at: there is none; the call was refused; or no entry may follow its bytes
abbrev pub RefusesLook : Option (List ℕ) → StoreFault → Type 0
RefusesLook content NotMbox = IsNoMbox content
RefusesLook content fault = Fails content fault

-- `peek_ends`: the size and the ends of a file that an entry may follow
abbrev pub TellsEnds : Option (List ℕ) → Result Edges StoreFault → Type 0
TellsEnds content (Ok edges) = (was : List ℕ) × EntryMayFollow content was × (edges ≡ edges_of was)
TellsEnds content (Err fault) = RefusesLook content fault

-- `check_mbox` and `peek_mbox`: an entry may follow the file
abbrev pub TellsMbox : {T : Type 0} → Option (List ℕ) → Result T StoreFault → Type 0
TellsMbox content (Ok done) = (was : List ℕ) × EntryMayFollow content was
TellsMbox content (Err fault) = RefusesLook content fault

-- `peek_front`: an entry may follow this many of the file's first bytes
abbrev pub TellsFront : {T : Type 0} → ℕ → Option (List ℕ) → Result T StoreFault → Type 0
TellsFront size content (Ok done) = (was : List ℕ) × (content ≡ Some was) × MayGoOn (take size was)
TellsFront size content (Err NotMbox) = (was : List ℕ) × (content ≡ Some was) × (MayGoOn (take size was) → ⊥)
TellsFront size content (Err fault) = Fails content fault

-- the entry of a text was to be appended, of which some may be there, and the file was to be cut back to its size
abbrev pub Undoes : {T : Type 0} → Disk → List ℕ → Result T StoreFault → Disk → Type 0
Undoes old text result new = (was : List ℕ) × EntryMayFollow (seen_on old) was
    × ((mid : Disk) × AppendsDisk {T = Unit {0}} (all_flushed old) (entry_of text) (Err Refused) mid
    × CutsDisk mid (length was) result new)

-- `append_owned`: once the file was flushed, the entry was appended; there is none, no entry may follow it, memory ran
-- out, or the flush was refused; or the append was refused, and the file cut back; or the cut back was refused too
abbrev pub AppendsEntry : {T : Type 0} → Disk → List ℕ → Result T EntryFault → Disk → Type 0
AppendsEntry old text (Ok done) new = ((was : List ℕ) × EntryMayFollow (seen_on old) was)
    × AppendsDisk {T = Unit {0}} (all_flushed old) (entry_of text) (Ok tt) new
AppendsEntry old text (Err (Nothing Refused)) new =
    MayFlush old new ⊎ Undoes {T = Unit {0}} old text (Ok tt) new
AppendsEntry old text (Err (Nothing NoMemory)) new = new ≡ all_flushed old
AppendsEntry old text (Err (Nothing fault)) new = ReadsDisk {T = Unit {0}} TellsMbox old (Err fault) new
AppendsEntry old text (Err Front) new = Undoes {T = Unit {0}} old text (Err Refused) new

-- `append_entry`: the same, but memory may run out before the file is looked at, and a refusal doesn't tell whether the
-- cut back was refused too
abbrev pub AppendsCopy : {T : Type 0} → Disk → List ℕ → Result T StoreFault → Disk → Type 0
AppendsCopy old text (Ok done) new = AppendsEntry old text (Ok done) new
AppendsCopy old text (Err fault) new = ((fault ≡ NoMemory) × (new ≡ old))
    ⊎ (AppendsEntry {T = Unit {0}} old text (Err (Nothing fault)) new
    ⊎ ((fault ≡ Refused) × AppendsEntry {T = Unit {0}} old text (Err Front) new))

-- what calls see then: the entry behind the file's bytes; the file as it was; or a front of the entry behind them
abbrev pub SeesEntry : {T : Type 0} → Option (List ℕ) → List ℕ → Result T EntryFault → Option (List ℕ) → Type 0
SeesEntry old text (Ok done) new = (was : List ℕ) × EntryMayFollow old was × (new ≡ Some (was ++ entry_of text))
SeesEntry old text (Err (Nothing Refused)) new = new ≡ old
SeesEntry old text (Err (Nothing NoMemory)) new = new ≡ old
SeesEntry old text (Err (Nothing fault)) new = RefusesLook old fault × (new ≡ old)
SeesEntry old text (Err Front) new = (was front rest : List ℕ) × EntryMayFollow old was
    × (entry_of text ≡ front ++ rest) × (new ≡ Some (was ++ front))

-- if nothing of the entry is there, a durable file still is so, unless a flush of it was refused
abbrev pub IsStillDurable : Disk → EntryFault → Type 0
IsStillDurable disk (Nothing fault) = Trusted disk.now → IsDurable disk
IsStillDurable disk Front = Unit {0}

-- whatever was answered, a crash leaves the bytes that were durable before; after Ok all that calls see is durable,
-- unless a flush was refused before; of a durable file the old bytes are left, and a part of the entry
pub record DurableEntry {T : Type 0} (old : Disk) (text : List ℕ) (result : Result T EntryFault) (new : Disk) : Type 0
  where
    pub sees : SeesEntry (seen_on old) text result (seen_on new)
    pub keeps : KeepsWhole (seen_on old) (MayLeave old) (MayLeave new)
    pub durable : Trusted old.now → OnOk result (IsDurable new)
    pub leaves : IsDurable old → LeavesPart (seen_on old) (entry_of text) (MayLeave new)
    pub still : IsDurable old → IfErr result (IsStillDurable new)

abbrev pub EntriesAreDurable : Type 0
EntriesAreDurable = (old new : Disk) (text : List ℕ) (result : Result (Unit {0}) EntryFault)
    → AppendsEntry old text result new → DurableEntry old text result new

-- the count rises if a call was refused, and once more if the cut that follows was refused too
abbrev pub TalliesEntry : {T : Type 0} → Result T EntryFault → ℕ → ℕ → Type 0
TalliesEntry (Ok done) old new = new ≡ old
TalliesEntry (Err (Nothing fault)) old new = Tallies (is_refusal fault) old new
TalliesEntry (Err Front) old new = new ≡ counted_up (counted_up old)

-- the same if a refusal doesn't tell whether the cut was refused
abbrev pub TalliesCopy : {T : Type 0} → Result T StoreFault → ℕ → ℕ → Type 0
TalliesCopy (Ok done) old new = new ≡ old
TalliesCopy (Err fault) old new =
    Tallies (is_refusal fault) old new ⊎ ((fault ≡ Refused) × (new ≡ counted_up (counted_up old)))

-- the bytes of each text
abbrev pub text_bytes : {A B : Type 0} → Vec (Vec ℕ A) B → List (List ℕ)
text_bytes texts = map (λ text. text.items) texts.items

-- `read_mbox`: the texts that the bytes stand for; they stand for none; or memory ran out
abbrev pub ReadsMbox : {A B : Type 0} → List ℕ → Result (Vec (Vec ℕ A) B) StoreFault → Type 0
ReadsMbox bytes (Ok texts) = MboxFile bytes (text_bytes texts)
ReadsMbox bytes (Err NotMbox) = HasNoTexts bytes
ReadsMbox bytes (Err NoMemory) = Unit {0}
ReadsMbox bytes (Err fault) = ⊥
