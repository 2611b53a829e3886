-- The turns of a conversation, and the replies that let it go on (RFC 1939, section 3).
use Rattle.mail_terms.specs.Listing.{message_limit}
use Rattle.std.specs.{
  Prelude.{◌≡◌, ◌⊎◌, ◌+◌, ◌*◌, ◌≤◌, ℕ, Bool, true, false, List, [], length, Option, None, Some, Ok, IsOk},
  List.{flat_map, AllByRecursion},
}
use Rattle.pop3_wire.specs.{
  Line.{IsLine, ended},
  Body.{IsContent, unstuffed, body_of},
  Reply.IsFirstLine,
  declared.reply.Status.TheVariants.Positive,
  declared.command.Command.{Command, TheVariants.{User, Pass, Stat, UidlAll, ListAll, Retr, Dele, Rset, Quit}},
  declared.note.Asked.Asked,
  declared.note.Asked.TheVariants.{Greeting as ByGreeting, User as ByUser, Pass as ByPass, Stat as ByStat},
  declared.note.Asked.TheVariants.{Uidl as ByUidl, Retr as ByRetr, Dele as ByDele, Rset as ByRset, Quit as ByQuit},
  declared.note.Asked.TheVariants.List as ByList,
  Commands.line_of,
  Reading.{WholeReply, gives_body},
  Fields.{number_and_size, number_and_id},
}

-- a turn: the command that is sent, or none for the greeting
abbrev pub Turn : Type 0
Turn = Option Command

-- the octets that are sent for it
abbrev pub turn_bytes : Turn → List ℕ
turn_bytes None = []
turn_bytes (Some command) = ended (line_of command)

-- all that is sent for these turns
abbrev pub asking : List Turn → List ℕ
asking turns = flat_map turn_bytes turns

abbrev pub greeting : Turn
greeting = None

abbrev pub user : List ℕ → Turn
user name = Some (User name)

abbrev pub pass : List ℕ → Turn
pass password = Some (Pass password)

abbrev pub stat : Turn
stat = Some Stat

abbrev pub uidl : Turn
uidl = Some UidlAll

abbrev pub list : Turn
list = Some ListAll

abbrev pub retr : ℕ → Turn
retr number = Some (Retr number)

abbrev pub dele : ℕ → Turn
dele number = Some (Dele number)

abbrev pub rset : Turn
rset = Some Rset

abbrev pub quit : Turn
quit = Some Quit

-- the turn whose refusal has this name
abbrev pub Names : Asked → Turn → Type 0
Names ByGreeting turn = turn ≡ greeting
Names ByUser turn = (name : List ℕ) × (turn ≡ user name)
Names ByPass turn = (password : List ℕ) × (turn ≡ pass password)
Names ByStat turn = turn ≡ stat
Names ByUidl turn = turn ≡ uidl
Names ByList turn = turn ≡ list
Names (ByRetr number) turn = turn ≡ retr number
Names (ByDele number) turn = turn ≡ dele number
Names ByRset turn = turn ≡ rset
Names ByQuit turn = turn ≡ quit

-- ---- limits

-- the longest line in octets, its CR LF included, and the longest body, its end mark included
abbrev pub line_limit : ℕ
line_limit = 2048

abbrev pub text_limit : ℕ
text_limit = 268435456

-- a line that is within the limit, its CR LF included
abbrev pub IsShort : List ℕ → Type 0
IsShort line = length line + 2 ≤ line_limit

-- how many octets are taken at most for a turn's reply; a listing's rows and its end mark are lines
abbrev pub most : Turn → ℕ
most (Some UidlAll) = line_limit + line_limit * (message_limit + 1)
most (Some ListAll) = line_limit + line_limit * (message_limit + 1)
most (Some (Retr number)) = line_limit + text_limit
most _ = line_limit

-- ---- replies that let the session go on

-- whether the rest of a positive first line has to give the number of messages
abbrev pub gives_count : Turn → Bool
gives_count (Some Stat) = true
gives_count _ = false

-- what that rest has to be: it gives a count of at most 100,000 messages
abbrev pub Fits : Turn → List ℕ → Type 0
Fits turn rest = gives_count turn ≡ true → (count size : ℕ) × (number_and_size rest ≡ Ok (count, size))
    × (count ≤ message_limit)

-- a listing is asked for
abbrev pub AsksListing : Turn → Type 0
AsksListing turn = (turn ≡ uidl) ⊎ (turn ≡ list)

-- a line of a listing stands for a row
abbrev pub IsListingRow : Turn → List ℕ → Type 0
IsListingRow (Some UidlAll) line = IsOk (number_and_id (unstuffed line))
IsListingRow (Some ListAll) line = IsOk (number_and_size (unstuffed line))
IsListingRow _ line = ⊥

-- what the lines of a body have to be
abbrev pub LinesFit : Turn → List (List ℕ) → Type 0
LinesFit (Some UidlAll) lines = (length lines ≤ message_limit) × AllByRecursion IsShort lines
    × AllByRecursion (IsListingRow uidl) lines
LinesFit (Some ListAll) lines = (length lines ≤ message_limit) × AllByRecursion IsShort lines
    × AllByRecursion (IsListingRow list) lines
LinesFit (Some (Retr number)) lines = length (body_of lines) ≤ text_limit
LinesFit _ lines = ⊥

-- the body of a reply, if it has to have one
abbrev pub IsBody : Turn → Option (List (List ℕ)) → Type 0
IsBody turn None = gives_body turn ≡ false
IsBody turn (Some lines) = AllByRecursion IsContent lines × LinesFit turn lines

-- a whole and positive reply that lets the session go on
pub record IsGood (turn : Turn) (reply : WholeReply) : Type 0 where
  pub rest : List ℕ
  pub line : IsLine reply.first
  pub short : IsShort reply.first
  pub positive : IsFirstLine reply.first Positive rest
  pub fits : Fits turn rest
  pub body : IsBody turn reply.body
