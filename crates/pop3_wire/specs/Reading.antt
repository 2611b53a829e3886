-- Replies as a client reads them: a first line, and after a positive one the body that its command asks for
-- (RFC 1939, section 3).
use Rattle.std.specs.{
  Prelude.{◌≡◌, ◌⊎◌, ℕ, Bool, true, false, List, [], ◌++◌, Option, None, Some, Ok},
  List.{flat_map, AllByRecursion, AllZip},
}
use Rattle.pop3_wire.specs.{
  Line.{IsLine, ended},
  Body.{IsContent, body_of, unstuffed},
  Fields.{number_and_size, number_and_id},
  Reply.IsFirstLine,
  declared.command.Command.{Command, TheVariants.{UidlAll, ListAll, Retr, Top}},
  declared.reply.Status.TheVariants.{Positive, Negative},
}
use Rattle.mail_terms.specs.{Listing.UidRow, declared.listing.ScanRow.ScanRow}

-- a whole reply: its first line, and the lines of its body if it has one
pub record WholeReply : Type 0 where
  pub first : List ℕ
  pub body : Option (List (List ℕ))

-- the octets of a reply's body
abbrev pub body_bytes : Option (List (List ℕ)) → List ℕ
body_bytes None = []
body_bytes (Some lines) = body_of lines

abbrev pub reply_bytes : WholeReply → List ℕ
reply_bytes reply = ended reply.first ++ body_bytes reply.body

-- whether a positive reply to the command has a body
abbrev pub has_body : Command → Bool
has_body UidlAll = true
has_body ListAll = true
has_body (Retr number) = true
has_body (Top number lines) = true
has_body _ = false

-- the same for what is replied to: a command, or none for the greeting
abbrev pub gives_body : Option Command → Bool
gives_body None = false
gives_body (Some command) = has_body command

-- a body of content lines if there has to be one, else none
abbrev pub IsBodyIf : Bool → Option (List (List ℕ)) → Type 0
IsBodyIf true None = ⊥
IsBodyIf true (Some lines) = AllByRecursion IsContent lines
IsBodyIf false None = Unit {0}
IsBodyIf false (Some lines) = ⊥

-- a whole reply to a command, or the greeting: a negative line; or a positive one, with a body if the command
-- asks for one
pub record IsReplyTo (asked : Option Command) (reply : WholeReply) : Type 0 where
  pub line : IsLine reply.first
  pub status : (((rest : List ℕ) × IsFirstLine reply.first Negative rest) × IsBodyIf false reply.body)
      ⊎ (((rest : List ℕ) × IsFirstLine reply.first Positive rest) × IsBodyIf (gives_body asked) reply.body)

-- octets split into replies to these commands in one way only
abbrev pub OneReading : Type 0
OneReading = (asked : List (Option Command)) (replies others : List WholeReply) (rest more : List ℕ)
    → AllZip IsReplyTo asked replies → AllZip IsReplyTo asked others
    → flat_map reply_bytes replies ++ rest ≡ flat_map reply_bytes others ++ more → (replies ≡ others) × (rest ≡ more)

-- a body splits into lines in one way only
abbrev pub OneListOfLines : Type 0
OneListOfLines = (lines others : List (List ℕ)) (rest more : List ℕ) → AllByRecursion IsContent lines
    → AllByRecursion IsContent others
    → body_of lines ++ rest ≡ body_of others ++ more → (lines ≡ others) × (rest ≡ more)

-- the row that a line of UIDL's body stands for, and that of LIST's
abbrev pub IsUidLine : List ℕ → UidRow → Type 0
IsUidLine line row = number_and_id (unstuffed line) ≡ Ok (row.number, row.uid)

abbrev pub IsScanLine : List ℕ → ScanRow → Type 0
IsScanLine line row = number_and_size (unstuffed line) ≡ Ok (row.number, row.size)

-- the lines of a reply's body stand for these rows
abbrev pub HasListing : {R : Type 0} → (List ℕ → R → Type 0) → WholeReply → List R → Type 0
HasListing IsThisRow reply rows = (lines : List (List ℕ)) × (reply.body ≡ Some lines) × AllZip IsThisRow lines rows

-- a reply to STAT gives this count
abbrev pub GivesCount : WholeReply → ℕ → Type 0
GivesCount reply count = (rest : List ℕ) × (size : ℕ) × IsFirstLine reply.first Positive rest
    × (number_and_size rest ≡ Ok (count, size))
