-- What a server may answer to the commands of a session, and whole conversations (RFC 1939, sections 3 to 7).
use Rattle.std.specs.{
  Prelude.{◌≡◌, ◌⊎◌, ◌-◌, ℕ, Bool, true, false, List, [], ◌∷◌, ◌++◌, map, length, take_while, nat_lt, Some, Ok},
  Prelude.{slice_get, slice_set, IsPermutation},
  Char.is_ascii_digit,
  Str.Parse.digits_value,
  List.{filter, slice_split, enumerate_from, AllZip, AllByRecursion},
}
use Rattle.pop3_wire.specs.{
  declared.command.Command.{Command, TheVariants.{Stat, UidlAll, ListAll, Retr, Dele, Rset, Top}},
  declared.reply.Status.{Status, TheVariants.{Positive, Negative}},
  CommandLine.HasNumbers,
  Line.{IsLine, ended, HoldsNoLf},
  Body.{IsContent, unstuffed, body_of, Body},
  Reply.{IsFirstLine, indicator, without_space},
  Fields.{is_space, number_and_size, number_and_id},
  Commands.{line_of, can_be_sent, octets_of},
  World.Message,
}

-- a first line of this status with its CR LF, and what follows the status on it
abbrev pub Says : Status → List ℕ → List ℕ → Type 0
Says status bytes after = IsLine (indicator status ++ after) × (bytes ≡ ended (indicator status ++ after))

abbrev pub SaysAnything : Status → List ℕ → Type 0
SaysAnything status bytes = (after : List ℕ) × Says status bytes after

-- a status and the text after it, without LF, are read as that status and the text after the space between the two
abbrev pub FirstLinesAreRead : Type 0
FirstLinesAreRead = (status : Status) (after : List ℕ) → HoldsNoLf after
    → IsLine (indicator status ++ after) × IsFirstLine (indicator status ++ after) status (without_space after)

-- the fields of a line: what its spaces separate
abbrev pub fields : List ℕ → List (List ℕ)
fields line = filter (λ field. nat_lt 0 (length field)) (slice_split is_space line)

-- the first field reads as this number in decimal, and these follow it
abbrev pub HasFields : ℕ → List (List ℕ) → List ℕ → Type 0
HasFields number more line = (field : List ℕ) × (fields line ≡ field ∷ more) × (digits_value 10 field ≡ number)

-- a row of UIDL, and one of LIST, in which anything may follow the size, gives this message under this number
abbrev pub IsUidRow : ℕ × Message → List ℕ → Type 0
IsUidRow (number, message) row = HasFields number (message.uid ∷ []) row

abbrev pub IsScanRow : ℕ × Message → List ℕ → Type 0
IsScanRow (number, message) row = (field : List ℕ) × (more : List (List ℕ)) × HasFields number (field ∷ more) row
    × (digits_value 10 (take_while is_ascii_digit field) ≡ message.size)

-- rows that are read have these fields
abbrev pub UidRowsHaveFields : Type 0
UidRowsHaveFields = (row : List ℕ) (number : ℕ) (message : Message) → number_and_id row ≡ Ok (number, message.uid)
    → IsUidRow (number, message) row

abbrev pub ScanRowsHaveFields : Type 0
ScanRowsHaveFields = (row : List ℕ) (number : ℕ) (message : Message) → number_and_size row ≡ Ok (number, message.size)
    → IsScanRow (number, message) row

-- nothing is marked
abbrev pub no_marks : List Message → List Bool
no_marks messages = map (λ _. false) messages

-- a first line and a body, which has a row for each message, in any order, if none is marked: a session lists
-- before it deletes
pub record ListsAll (IsRow : ℕ × Message → List ℕ → Type 0) (messages : List Message) (marks : List Bool)
    (bytes : List ℕ) : Type 0 where
  pub first : List ℕ
  pub says : SaysAnything Positive first
  pub lines : List (List ℕ)
  pub content : AllByRecursion IsContent lines
  pub whole : bytes ≡ first ++ body_of lines
  pub rows : marks ≡ no_marks messages
      → (numbered : List (ℕ × Message)) × IsPermutation (enumerate_from 1 messages) numbered
      × AllZip IsRow numbered (map unstuffed lines)

-- a positive reply to a command, and the marks after it; a session never sends TOP
abbrev pub Grants : List Message → List Bool → Command → List ℕ → List Bool → Type 0
Grants messages marks Stat bytes next = (after : List ℕ) × (more : List (List ℕ)) × Says Positive bytes after
    × (marks ≡ no_marks messages → HasFields (length messages) more after) × (next ≡ marks)
Grants messages marks UidlAll bytes next = ListsAll IsUidRow messages marks bytes × (next ≡ marks)
Grants messages marks ListAll bytes next = ListsAll IsScanRow messages marks bytes × (next ≡ marks)
Grants messages marks (Retr number) bytes next = (first body : List ℕ) × (message : Message)
    × SaysAnything Positive first
    × (bytes ≡ first ++ body) × (slice_get messages (number - 1) ≡ Some message) × Body body message.text
    × (next ≡ marks)
Grants messages marks (Dele number) bytes next = SaysAnything Positive bytes
    × (next ≡ slice_set marks (number - 1) true)
Grants messages marks Rset bytes next = SaysAnything Positive bytes × (next ≡ map (λ _. false) marks)
Grants messages marks (Top number lines) bytes next = ⊥
Grants messages marks command bytes next = SaysAnything Positive bytes × (next ≡ marks)

-- a negative reply leaves the marks; a positive one has what the command asks for
abbrev pub Reply : List Message → List Bool → Command → List ℕ → List Bool → Type 0
Reply messages marks command bytes next =
    (SaysAnything Negative bytes × (next ≡ marks)) ⊎ Grants messages marks command bytes next

-- a reply to each of these commands, in order, with the marks before the first and after the last
abbrev pub Replies : List Message → List Bool → List Command → List ℕ → List Bool → Type 0
Replies messages marks [] bytes last = (bytes ≡ []) × (last ≡ marks)
Replies messages marks (command ∷ commands) bytes last =
    (first more : List ℕ) × (next : List Bool) × (bytes ≡ first ++ more)
    × Reply messages marks command first next × Replies messages next commands more last

-- these commands were sent whole, each on one line and with numbers below 2 ^ 32, and perhaps a part of one more
pub record HasSent (commands : List Command) (sent : List ℕ) : Type 0 where
  pub sendable : AllByRecursion (λ command. can_be_sent command ≡ true) commands
  pub numbers : AllByRecursion HasNumbers commands
  pub part : List ℕ
  pub no_line : IsLine part
  pub whole : sent ≡ octets_of commands ++ part

-- the octets sent determine which commands were sent whole
abbrev pub OneListOfCommands : Type 0
OneListOfCommands = (commands others : List Command) (sent : List ℕ) → HasSent commands sent → HasSent others sent
    → commands ≡ others

-- the octets begin the line of the first of these commands; without a command there are none
abbrev pub BeginsNext : List Command → List ℕ → Type 0
BeginsNext [] part = part ≡ []
BeginsNext (command ∷ commands) part = (unsent : List ℕ) × (ended (line_of command) ≡ part ++ unsent)

-- a prefix of the octets of some commands is the first of these commands whole, and perhaps a part of the next
abbrev pub FrontsAreAsked : Type 0
FrontsAreAsked = (commands : List Command) (front rest : List ℕ)
    → AllByRecursion (λ command. can_be_sent command ≡ true) commands
    → AllByRecursion HasNumbers commands → octets_of commands ≡ front ++ rest
    → (whole later : List Command) × (commands ≡ whole ++ later) × (asked : HasSent whole front)
    × BeginsNext later asked.part

-- what was got begins a greeting and one reply to each command that was sent whole; after these replies the
-- marks are these
pub record Honest (messages : List Message) (sent got : List ℕ) (marks : List Bool) : Type 0 where
  pub status : Status
  pub hello : List ℕ
  pub greets : SaysAnything status hello
  pub commands : List Command
  pub asked : HasSent commands sent
  pub replies : List ℕ
  pub replied : Replies messages (no_marks messages) commands replies marks
  pub later : List ℕ
  pub begins : hello ++ replies ≡ got ++ later
