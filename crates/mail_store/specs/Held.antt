-- What `held` answers for a Maildir.
use Rattle.std.specs.{
  Prelude.{◌≡◌, ℕ, List, map, Bool, true, false, Result, Ok, Err, Vec, ◌⊎◌, OnOk, [], ◌∷◌, ◌++◌, ◌&&◌, bytes_eq, ◌<◌},
  Prelude.{String, string_bytes, Contains, HoldsAt, IsPermutation, if◌then◌else◌, zip},
  List.{AllByRecursion, filter, list_any},
  Borrow.Bor,
  Ordering.nat_cmp,
  Cmp.Lexicographic.slice_cmp,
  BTreeSet.{BTreeSet, contains_by},
}
use Rattle.hex.specs.Hex.{encode_lower}
use Rattle.mail_terms.specs.Listing.{Item}
use Rattle.mail_store.specs.{
  declared.{fault.StoreFault.{StoreFault, TheVariants.{Missing, Refused, NotMbox, NoMemory}}, maildir.disk.Asked.Asked},
  Loss.is_among,
  Maildir.{AllNamed, File, IsDurableFile, Maildir, bases_told, maildir_refused, names_of},
  FileName.{is_held, is_odd, names_id, stem, stem_of},
}

-- whether the id of each item is held, in order
abbrev pub flags_of : List ℕ → Maildir → List Item → List Bool
flags_of account maildir items = map (λ (item : Item). is_held account maildir item.uid) items

-- whether what can't be opened bears a name of the id of each item, in order
abbrev pub odd_flags : List ℕ → Maildir → List Item → List Bool
odd_flags account maildir items = map (λ (item : Item). is_odd account maildir item.uid) items

-- each of these flags is what a test says of the item's id
abbrev pub AreById : List Item → List Bool → Type 0
AreById items flags = (test : List ℕ → Bool) × (flags ≡ map (λ (item : Item). test item.uid) items)

-- a durable file that holds this id is there
abbrev pub HasDurable : List ℕ → Maildir → List ℕ → Type 0
HasDurable account maildir uid = (f : File) × Contains maildir.files f × (names_id account uid f.name ≡ true)
    × IsDurableFile f

-- whether the id of each item is asked for and held, in order; an item is asked for if its flag is set
abbrev pub flags_sought : List ℕ → Maildir → List Item → List Bool → List Bool
flags_sought account maildir (item ∷ items) (flag ∷ flags) =
    (flag && is_held account maildir item.uid) ∷ flags_sought account maildir items flags
flags_sought account maildir _ _ = []

-- the same, or of each item if all are asked for
abbrev pub flags_asked : Bool → List ℕ → Maildir → List Item → List Bool → List Bool
flags_asked all account maildir items flags =
    if all then flags_of account maildir items else flags_sought account maildir items flags

-- the names that the device tells as odd are exactly those that what can't be opened bears, in any order
abbrev pub ToldAreOdd : Maildir → Type 0
ToldAreOdd maildir = IsPermutation maildir.odd maildir.told

-- these flags were found: `new` and `cur` are there, each name is durable, and the odd ones are told; `new` or `cur`
-- isn't there; or a call was refused
abbrev pub FindsFlags : {B : Type 0} → List Bool → Maildir → Result (Vec Bool B) StoreFault → Maildir → Type 0
FindsFlags found old (Ok flags) new =
    (flags.items ≡ found) × (new ≡ old) × (old.there.new ≡ true) × (old.there.cur ≡ true) × AllNamed old.files
    × ToldAreOdd old
FindsFlags found old (Err Missing) new = ((old.there.new ≡ false) ⊎ (old.there.cur ≡ false)) × (new ≡ old)
FindsFlags found old (Err Refused) new = new ≡ maildir_refused old
FindsFlags found old (Err NotMbox) new = ⊥
FindsFlags found old (Err NoMemory) new = new ≡ old

-- `held`: whether each item is held
abbrev pub Finds : {B : Type 0} → List ℕ → Maildir → List Item → Result (Vec Bool B) StoreFault → Maildir → Type 0
Finds account old items result new = FindsFlags (flags_of account old items) old result new

-- `held_asked`: the same of those that are asked for
abbrev pub FindsAsked : {B : Type 0} → Bool → List ℕ → Maildir → List Item → List Bool
    → Result (Vec Bool B) StoreFault → Maildir → Type 0
FindsAsked all account old items flags result new = FindsFlags (flags_asked all account old items flags) old result new

-- of each item that is flagged, if it is held, a durable file is there
abbrev pub FoundDurable : List ℕ → Maildir → List Item → List Bool → Type 0
FoundDurable account maildir (item ∷ items) (flag ∷ flags) =
    (flag ≡ true → is_held account maildir item.uid ≡ true → HasDurable account maildir item.uid)
    × FoundDurable account maildir items flags
FoundDurable account maildir _ _ = Unit {0}

-- `flush_held`: as `held_asked`, and of each item that is flagged and held a file is durable
abbrev pub FindsDurable : {B : Type 0} → Bool → List ℕ → Maildir → List Item → List Bool
    → Result (Vec Bool B) StoreFault → Maildir → Type 0
FindsDurable all account old items flags result new =
    FindsAsked all account old items flags result new × OnOk result (FoundDurable account new items flags)

-- ---- names

-- whether a text is the stem of an item that is asked for
abbrev pub is_asked : List ℕ → List Item → List Bool → List ℕ → Bool
is_asked account items flags text =
    list_any (λ asked. asked.1 && bytes_eq (stem_of account asked.0.uid) text) (zip items flags)

abbrev pub asks : Asked → List ℕ → Bool
asks asked text = is_asked asked.account.now asked.listing.now asked.flags.now text

-- whether the stem of a name is sought
abbrev pub is_sought : (List ℕ → Bool) → List ℕ → Bool
is_sought seeks name = seeks (stem name)

-- of these names, in some order, those alone whose stems are sought
abbrev pub AreAmong : (List ℕ → Bool) → List (List ℕ) → List (List ℕ) → Type 0
AreAmong seeks names told =
    (order : List (List ℕ)) × IsPermutation names order × (told ≡ filter (is_sought seeks) order)

-- `names_among`: the name of each file of `new` and `cur` whose stem is sought, in any order; each is durable. The odd
-- names that it tells are exactly those with such stems that what can't be opened bears there, in any order
abbrev pub ListsAmong : {A B : Type 0} → Maildir → (List ℕ → Bool) → Result (Vec (String A) B) StoreFault → Maildir
    → Type 0
ListsAmong old seeks (Ok names) new = (old.there.new ≡ true) × (old.there.cur ≡ true)
    × AreAmong seeks (names_of old.files) (bases_told names.items) × AllNamed old.files × (new ≡ old)
    × ToldAreOdd old × AllByRecursion (λ name. is_sought seeks name ≡ true) old.odd
ListsAmong old seeks (Err Missing) new = ((old.there.new ≡ false) ⊎ (old.there.cur ≡ false)) × (new ≡ old)
ListsAmong old seeks (Err Refused) new = new ≡ maildir_refused old
ListsAmong old seeks (Err fault) new = ⊥

-- whether the flag of each item is set and its id's digits pass, in order
abbrev pub sought_among : (List ℕ → Bool) → List Item → List Bool → List Bool
sought_among found (item ∷ items) (flag ∷ flags) =
    (flag && found (encode_lower item.uid)) ∷ sought_among found items flags
sought_among found _ _ = []

-- whether a set of texts has this one
abbrev pub has_text : BTreeSet (Bor (List ℕ)) → List ℕ → Bool
has_text texts q = contains_by (λ text. slice_cmp nat_cmp q text.now) texts

-- whether the stem of one of these names is the account's text, a full stop and these digits
abbrev pub any_name : {A : Type 0} → List ℕ → List ℕ → List (String A) → Bool
any_name account q names = list_any (λ name. bytes_eq (account ++ 46 ∷ q) (stem (string_bytes name))) names

-- the item at this place has its stem among these, if both of its flags are set
abbrev pub HasStem : {A : Type 0} → List ℕ → List Item → List Bool → List Bool → List (String A) → ℕ → Type 0
HasStem account items held flags stems k = (item : Item) → HoldsAt (λ i. i ≡ item) items k
    → HoldsAt (λ h. h ≡ true) held k
    → HoldsAt (λ f. f ≡ true) flags k → is_among stems (stem_of account item.uid) ≡ true

-- so does each of the first n items
abbrev pub HasStems : {A : Type 0} → List ℕ → List Item → List Bool → List Bool → ℕ → List (String A) → Type 0
HasStems account items held flags n stems = (k : ℕ) → k < n → HasStem account items held flags stems k
