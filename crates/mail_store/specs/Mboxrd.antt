-- Texts in an mboxrd file: how a line is quoted, what an entry is, and which texts a file stands for.
use Rattle.std.specs.{
  Prelude.{◌≡◌, ◌⊎◌, ◌==◌, ◌&&◌, ◌+◌, ◌-◌, ℕ, Bool, false, List, [], ◌∷◌, ◌++◌, true, map, length, take, drop, codes},
  Prelude.{if◌then◌else◌, nat_eq},
  List.{count_by, flat_map, onto_first, starts_with, AllByRecursion},
}
use Rattle.mail_terms.specs.Text.{IsWhole, HasNoLf}

-- ---- lines

-- the lines of a text, each with the LF that ends it; a last piece without LF is a line
abbrev pub lines_of : List ℕ → List (List ℕ)
lines_of [] = []
lines_of (byte ∷ rest) = if byte == 10 then (10 ∷ []) ∷ lines_of rest else onto_first byte (lines_of rest)

-- a line with the LF that ends it
pub record IsMboxLine (line : List ℕ) : Type 0 where
  pub words : List ℕ
  pub plain : HasNoLf words
  pub ended : line ≡ words ++ 10 ∷ []

-- ---- quoting

-- the bytes that an entry begins with
abbrev pub from_words : List ℕ
from_words = codes "From "

-- the line begins with `From `
abbrev pub begins_entry : List ℕ → Bool
begins_entry line = starts_with nat_eq line from_words

-- the line is `>` any number of times and then `From `
abbrev pub is_marked : List ℕ → Bool
is_marked [] = false
is_marked (byte ∷ rest) = if byte == 62 then is_marked rest else begins_entry (byte ∷ rest)

-- a line as it is in an entry: with one more `>` if it is marked
abbrev pub quoted : List ℕ → List ℕ
quoted line = if is_marked line then 62 ∷ line else line

-- a line of an entry as it was: with one `>` less if it is `>` at least once and then `From `
abbrev pub unquoted : List ℕ → List ℕ
unquoted [] = []
unquoted (byte ∷ rest) = if byte == 62 && is_marked rest then rest else byte ∷ rest

abbrev pub quoted_text : List ℕ → List ℕ
quoted_text text = flat_map quoted (lines_of text)

abbrev pub unquoted_text : List ℕ → List ℕ
unquoted_text text = flat_map unquoted (lines_of text)

-- a law: unquoting a quoted text gives the text
abbrev pub UnquotesQuoted : Type 0
UnquotesQuoted = (text : List ℕ) → IsWhole text → unquoted_text (quoted_text text) ≡ text

-- ---- entries and files

-- the line that an entry begins with
abbrev pub separator : List ℕ
separator = codes "From MAILER-DAEMON Thu Jan  1 00:00:00 1970\n"

-- the entry of a text: that line, the quoted text and an empty line
abbrev pub entry_of : List ℕ → List ℕ
entry_of text = separator ++ (quoted_text text ++ 10 ∷ [])

-- the text of an entry: what is between its first line and its last one, which is empty, unquoted
abbrev pub text_in : List ℕ → List ℕ
text_in entry = unquoted_text (take (length entry - (length separator + 1)) (drop (length separator) entry))

-- how many octets a whole text takes on the wire, without stuffing: each LF is sent as CR LF (RFC 1939, section 11)
abbrev pub wire_size : List ℕ → ℕ
wire_size text = length text + count_by (λ byte. byte == 10) text

-- lines of a file that stand for a text, without the empty line after them
pub record Group : Type 0 where
  pub head : List ℕ
  pub lines : List (List ℕ)

-- a line that begins with `From `, and a line that doesn't
abbrev pub IsHead : List ℕ → Type 0
IsHead line = IsMboxLine line × (begins_entry line ≡ true)

abbrev pub IsInner : List ℕ → Type 0
IsInner line = IsMboxLine line × (begins_entry line ≡ false)

-- the first line of a group begins with `From `, the others don't
abbrev pub IsMboxGroup : Group → Type 0
IsMboxGroup group = IsHead group.head × AllByRecursion IsInner group.lines

-- the lines of a group and the empty one after them, as bytes
abbrev pub group_bytes : Group → List ℕ
group_bytes group = group.head ++ (flat_map (λ (line : List ℕ). line) group.lines ++ 10 ∷ [])

-- the text of a group
abbrev pub group_text : Group → List ℕ
group_text group = flat_map unquoted group.lines

-- the file stands for the texts: it is the concatenation of groups of lines, each a line that begins
-- with `From `, lines that don't, and an empty last one, which unquote to the texts
pub record MboxFile (file : List ℕ) (texts : List (List ℕ)) : Type 0 where
  pub groups : List Group
  pub are : AllByRecursion IsMboxGroup groups
  pub whole : file ≡ flat_map group_bytes groups
  pub read : texts ≡ map group_text groups

-- the file stands for no texts
abbrev pub HasNoTexts : List ℕ → Type 0
HasNoTexts file = (texts : List (List ℕ)) → MboxFile file texts → ⊥

-- an entry may follow these bytes: there are none, or they begin with `From ` and end with LF LF
abbrev pub MayGoOn : List ℕ → Type 0
MayGoOn bytes = (bytes ≡ []) ⊎ ((begins_entry bytes ≡ true) × ((front : List ℕ) × (bytes ≡ front ++ 10 ∷ 10 ∷ [])))

-- a law: a file that stands for texts, followed by the entry of one more, stands for the texts and then for that one
abbrev pub EntryAddsText : Type 0
EntryAddsText = (file text : List ℕ) (texts : List (List ℕ)) → MboxFile file texts → IsWhole text
    → MboxFile (file ++ entry_of text) (texts ++ text ∷ [])

-- a law: a file stands for one list of texts only
abbrev pub OneListOfTexts : Type 0
OneListOfTexts = (file : List ℕ) (texts others : List (List ℕ)) → MboxFile file texts → MboxFile file others
    → texts ≡ others

-- a law: an entry may follow each file that stands for texts
abbrev pub TextsMayGoOn : Type 0
TextsMayGoOn = (file : List ℕ) (texts : List (List ℕ)) → MboxFile file texts → MayGoOn file

-- ---- a file that is read group by group

abbrev pub IsApart : List ℕ → Type 0
IsApart line = begins_entry line ≡ false

-- there are no lines, or the first one begins with `From `
abbrev pub OpensEntry : List (List ℕ) → Type 0
OpensEntry [] = Unit {0}
OpensEntry (line ∷ lines) = begins_entry line ≡ true

-- the first line of some bytes is cut off; it may lack its LF only if nothing follows
pub record CutsLine (bytes line rest : List ℕ) : Type 0 where
  pub lines : lines_of bytes ≡ line ∷ lines_of rest
  pub whole : bytes ≡ line ++ rest
  pub ended : IsMboxLine line ⊎ (rest ≡ [])

-- a front of some bytes is their first line and lines that don't begin with `From `
pub record StartsGroup (bytes front rest : List ℕ) : Type 0 where
  pub head : List ℕ
  pub inner : List (List ℕ)
  pub lines : lines_of bytes ≡ head ∷ (inner ++ lines_of rest)
  pub apart : AllByRecursion IsApart inner
  pub whole : bytes ≡ front ++ rest

-- the first line of some bytes and the lines after it, up to the next that begins with `From `, are cut off
abbrev pub CutsGroup : List ℕ → List ℕ → List ℕ → Type 0
CutsGroup bytes group rest = StartsGroup bytes group rest × OpensEntry (lines_of rest)

-- lines that stand for a text: one that begins with `From `, those of a quoted text, and an empty one
pub record HoldsText (group quoted : List ℕ) : Type 0 where
  pub head : List ℕ
  pub begins : IsHead head
  pub whole : IsWhole quoted
  pub split : group ≡ head ++ (quoted ++ 10 ∷ [])
