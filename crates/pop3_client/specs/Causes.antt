-- Why a reply isn't whole and good, by the octets of it that have come.
use Rattle.std.specs.{
  Prelude.{◌≡◌, ◌⊎◌, ◌<◌, ◌≤◌, ℕ, true, List, ◌++◌, length, take, Some, Ok, IsOk},
  List.{flat_map, AllByRecursion},
}
use Rattle.pop3_wire.specs.{
  Line.{IsLine, ended},
  Body.{IsContent, HasNoBody},
  Reply.IsFirstLine,
  Fields.number_and_size,
  Link.Link,
  Place.HasNoLine,
  declared.{reply.Status.TheVariants.{Positive, Negative}, command.Command.TheVariants.{UidlAll, ListAll, Retr}},
}
use Rattle.pop3_client.specs.{
  declared.fault.ClientFault.ClientFault,
  declared.fault.ClientFault.TheVariants.{ConnectionEnded, ReadFailed, WriteFailed, ReplyTooLong, BadReply, Refused},
  declared.fault.ClientFault.TheVariants.{BadListing, ListingsDisagree, TooMany, TextTooLong, NoMemory},
  Turns.{Turn, Names, gives_count, retr, line_limit, text_limit, IsShort, AsksListing, IsListingRow},
}
use Rattle.mail_terms.specs.Listing.{message_limit}

-- the octets begin with a positive first line, and these follow it
pub record BeginsPositive (bytes after : List ℕ) : Type 0 where
  pub line : List ℕ
  pub rest : List ℕ
  pub is : IsLine line
  pub short : IsShort line
  pub whole : bytes ≡ ended line ++ after
  pub positive : IsFirstLine line Positive rest

-- the octets begin with these rows of a listing, no more than the limit, and these octets follow them
pub record HasRows (turn : Turn) (bytes after : List ℕ) (lines : List (List ℕ)) : Type 0 where
  pub listing : AsksListing turn
  pub content : AllByRecursion IsContent lines
  pub short : AllByRecursion IsShort lines
  pub rows : AllByRecursion (IsListingRow turn) lines
  pub few : length lines ≤ message_limit
  pub whole : bytes ≡ flat_map ended lines ++ after

-- a line isn't whole yet, and may still end within the limit
abbrev pub IsPartOfLine : List ℕ → Type 0
IsPartOfLine bytes = IsLine bytes × (length bytes < line_limit)

-- good rows of a listing, and a part of its next line
abbrev pub IsPartOfListing : Turn → List ℕ → Type 0
IsPartOfListing turn bytes = (behind : List ℕ) × (lines : List (List ℕ)) × HasRows turn bytes behind lines
    × IsPartOfLine behind

-- a body isn't whole yet: all of it that has come is good, and it may still end within the limit
abbrev pub IsPartOfBody : Turn → List ℕ → Type 0
IsPartOfBody (Some UidlAll) bytes = IsPartOfListing (Some UidlAll) bytes
IsPartOfBody (Some ListAll) bytes = IsPartOfListing (Some ListAll) bytes
IsPartOfBody (Some (Retr number)) bytes = HasNoBody bytes × (length bytes < text_limit)
IsPartOfBody _ bytes = ⊥

-- a reply isn't whole yet: its first line isn't, or the body after a positive one
abbrev pub NotWhole : Turn → List ℕ → Type 0
NotWhole turn bytes = IsPartOfLine bytes ⊎ ((after : List ℕ) × BeginsPositive bytes after × IsPartOfBody turn after)

-- no line ends within the limit, and at least that many octets are there
abbrev pub IsOverlong : List ℕ → Type 0
IsOverlong bytes = HasNoLine line_limit bytes × (line_limit ≤ length bytes)

-- a line after this many good rows of a listing
pub record RowBehind (turn : Turn) (after row : List ℕ) (rows : ℕ) : Type 0 where
  pub behind : List ℕ
  pub lines : List (List ℕ)
  pub has : HasRows turn after (ended row ++ behind) lines
  pub count : length lines ≡ rows
  pub content : IsContent row
  pub short : IsShort row

-- the same behind a positive first line
abbrev pub NextLine : Turn → List ℕ → List ℕ → ℕ → Type 0
NextLine turn bytes row rows = (after : List ℕ) × BeginsPositive bytes after × RowBehind turn after row rows

-- the first line, if it is whole
pub record FirstLine (bytes line : List ℕ) : Type 0 where
  pub after : List ℕ
  pub is : IsLine line
  pub short : IsShort line
  pub whole : bytes ≡ ended line ++ after

-- why a reply isn't good, given the octets of it that have come
abbrev pub Cause : ClientFault → Turn → Link → Link → List ℕ → Type 0
Cause ConnectionEnded turn old new bytes = (new.ended ≡ true) × NotWhole turn bytes
Cause ReadFailed turn old new bytes = (old.failures < new.failures) × NotWhole turn bytes
Cause WriteFailed turn old new bytes = ⊥
Cause ReplyTooLong turn old new bytes = IsOverlong bytes
    ⊎ ((after behind : List ℕ) × (lines : List (List ℕ)) × BeginsPositive bytes after × HasRows turn after behind lines
    × IsOverlong behind)
Cause BadReply turn old new bytes = (line : List ℕ) × FirstLine bytes line
    × ((rest : List ℕ) → IsFirstLine line Negative rest → ⊥)
    × ((rest : List ℕ) → IsFirstLine line Positive rest → (gives_count turn ≡ true) × (IsOk (number_and_size rest) → ⊥))
Cause (Refused to) turn old new bytes = Names to turn
    × ((line rest : List ℕ) × FirstLine bytes line × IsFirstLine line Negative rest)
Cause BadListing turn old new bytes = (row : List ℕ) × (rows : ℕ) × NextLine turn bytes row rows
    × (rows < message_limit) × (IsListingRow turn row → ⊥)
Cause ListingsDisagree turn old new bytes = ⊥
Cause TooMany turn old new bytes =
    ((gives_count turn ≡ true) × ((line rest : List ℕ) × (count size : ℕ) × FirstLine bytes line
    × IsFirstLine line Positive rest × (number_and_size rest ≡ Ok (count, size)) × (message_limit < count)))
    ⊎ ((row : List ℕ) × NextLine turn bytes row message_limit)
Cause TextTooLong turn old new bytes = ((number : ℕ) × (turn ≡ retr number))
    × ((after : List ℕ) × BeginsPositive bytes after
    × HasNoBody (take text_limit after) × (text_limit ≤ length after))
Cause NoMemory turn old new bytes = (row : List ℕ) × (rows : ℕ) × NextLine turn bytes row rows
    × (rows < message_limit) × IsListingRow turn row
