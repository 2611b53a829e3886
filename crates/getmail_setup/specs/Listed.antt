-- The rows of a listing, and the messages over the size limit that they name.
use Rattle.std.specs.{
  Prelude.{◌≡◌, ◌⊎◌, ◌==◌, ◌-◌, ◌++◌, ℕ, List, [], ◌∷◌, Option, None, Some, Result, Ok, Err, codes, length, nat_lt},
  Prelude.{Bool, false, true, IsSomeAnd, option_map, take, if◌then◌else◌},
  Char.is_ascii_whitespace,
  List.{filter_map, find, list_any, suffix_len},
}
use Rattle.mail_terms.specs.Text.{lines_of_text}
use Rattle.pop3_wire.specs.{
  Fields.{number_and_id, number_and_size},
  declared.{fault.WireFault.WireFault, note.Asked.{Asked, TheVariants.{Uidl, List as ListAsked}}},
  declared.note.Note.{Note, TheVariants.{Command, Body}},
}
use Rattle.getmail_setup.specs.{Digest.digest_text, declared.listed.{Large.Large, Listed.Listed}}

-- a row without blanks and what ends a line at its end
abbrev pub without_end : List ℕ → List ℕ
without_end row = take (length row - suffix_len is_ascii_whitespace row) row

-- nothing is listed yet
pub record IsFresh (limit : ℕ) (listed : Listed) : Type 0 where
  pub limit_is : listed.limit ≡ limit
  pub asked : listed.asked ≡ None
  pub uids : listed.uids.items ≡ []
  pub sizes : listed.sizes.items ≡ []

-- the number and the size in a row of LIST, if the size is over a limit
abbrev pub over : ℕ → Result (ℕ × ℕ) WireFault → Option (ℕ × ℕ)
over limit (Ok (number, size)) = if nat_lt limit size then Some (number, size) else None
over limit (Err fault) = None

abbrev pub size_over : ℕ → List ℕ → Option (ℕ × ℕ)
size_over limit row = over limit (number_and_size (without_end row))

-- a listing that is asked for takes the place of an earlier one
abbrev pub BeginsListing : Listed → Option Asked → Listed → Type 0
BeginsListing old (Some Uidl) new = (new ≡ record old { asked = Some Uidl; uids = new.uids }) × (new.uids.items ≡ [])
BeginsListing old (Some ListAsked) new =
    (new ≡ record old { asked = Some ListAsked; sizes = new.sizes }) × (new.sizes.items ≡ [])
BeginsListing old asked new = new ≡ record old { asked = asked }

-- no row was added
pub record HasSameRows (old new : Listed) : Type 0 where
  pub others : new ≡ record old { uids = new.uids; sizes = new.sizes }
  pub uids : new.uids.items ≡ old.uids.items
  pub sizes : new.sizes.items ≡ old.sizes.items

-- a row of UIDL was added, or the size in one of LIST, if it is over the limit
abbrev pub HasLargeSize : Option (ℕ × ℕ) → Listed → Listed → Type 0
HasLargeSize None old new = new ≡ old
HasLargeSize (Some size) old new =
    (new ≡ record old { sizes = new.sizes }) × (new.sizes.items ≡ old.sizes.items ++ (size ∷ []))

abbrev pub HasRow : Listed → Option Asked → List ℕ → Listed → Type 0
HasRow old (Some Uidl) row new = (new ≡ record old { uids = new.uids }) × (new.uids.items ≡ old.uids.items ++ row)
HasRow old (Some ListAsked) row new = HasLargeSize (size_over old.limit row) old new
HasRow old asked row new = new ≡ old

-- a part of a conversation was noted; a row that there is no memory for isn't known
abbrev pub NotesRow : Listed → Note → Listed → Type 0
NotesRow old (Command asked line) new = BeginsListing old asked new
NotesRow old (Body text octets ended) new = HasRow old old.asked text.now new ⊎ HasSameRows old new
NotesRow old part new = new ≡ old

-- the size of a message in the rows of LIST that are over the limit
abbrev pub large_size : List (ℕ × ℕ) → ℕ → Option ℕ
large_size sizes number = option_map (λ row. row.1) (find (λ row. row.0 == number) sizes)

-- the message over the limit that a row of UIDL names, if its number is among these
abbrev pub large_of : ℕ → List ℕ → Option ℕ → Option Large
large_of number id None = None
large_of number id (Some size) =
    Some (record { number = number; size = size; key = digest_text id (codes "too large") })

abbrev pub large_for : List (ℕ × ℕ) → List ℕ → Result (ℕ × List ℕ) WireFault → Option Large
large_for sizes numbers (Err fault) = None
large_for sizes numbers (Ok (number, id)) =
    if list_any (λ one. one == number) numbers then large_of number id (large_size sizes number) else None

abbrev pub large_in : List (ℕ × ℕ) → List ℕ → List ℕ → Option Large
large_in sizes numbers row = large_for sizes numbers (number_and_id (without_end row))

-- they are those that the rows of the last listing name, in its order
abbrev pub AreLarge : Listed → List ℕ → List Large → Type 0
AreLarge listed numbers large =
    large ≡ filter_map (large_in listed.sizes.items numbers) (lines_of_text listed.uids.items)

-- the rows of messages over this limit are kept, or none are; none has come yet
abbrev pub KeepsLarge : Bool → ℕ → Option Listed → Type 0
KeepsLarge true limit listed = IsSomeAnd listed (IsFresh limit)
KeepsLarge false limit listed = listed ≡ None
