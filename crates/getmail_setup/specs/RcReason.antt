-- The reason of a fault of an rc file, or of the flags. Of the file it has at most the number of a line.
use Rattle.std.specs.{
  Prelude.{◌≡◌, ◌&&◌, ◌==◌, ◌++◌, ℕ, Bool, nat_eq, List, [], ◌∷◌, codes, is_some, not},
  Prelude.{None, Option, Some, if◌then◌else◌},
  Fmt.decimal,
  Ffi.without_last,
  List.starts_with,
  Str.is_utf8,
}
use Rattle.rc_file.specs.{
  FaultLine.fault_line,
  FileRows.rows_of,
  KeyTable.rule,
  OtherKey.other_value,
  declared.fault.RcFault.RcFault,
  declared.fault.RcFault.TheVariants.{TooLong, BadLine, MissingSection, MissingKey, UnknownType, BadValue},
  declared.fault.RcFault.TheVariants.{Unsupported, BadPath, Contradiction},
  declared.key.Key.Key,
  declared.key.Key.TheVariants.{UseApop, Server, Port, Username, Password, DestinationKind, Path, ReadAll, Delete},
  declared.key.Key.TheVariants.DeleteAfter,
}
use Rattle.system_calls.specs.Line.{IsTraceLine}
use Rattle.getmail_setup.specs.declared.words.Words.{Words}

-- what the value of a key has to be
abbrev pub value_rule : Key → List ℕ
value_rule Server = codes "one line, not empty, with no NUL"
value_rule Port = codes "1 to 65535"
value_rule Username = codes "one line of 1 to 500 octets, with no CR and no NUL"
value_rule Password = codes "one line of 1 to 500 octets, with no CR and no NUL"
value_rule UseApop = codes "true or false"
value_rule ReadAll = codes "true or false"
value_rule Delete = codes "true or false"
value_rule DeleteAfter = codes "a number of days, 0 to 4294967295"
value_rule key = codes "a number, 0 to 18446744073709551615"

abbrev pub type_rule : Key → List ℕ
type_rule DestinationKind = codes "Maildir or Mboxrd"
type_rule key = codes "SimplePOP3Retriever; TLS needs a tunnel"

abbrev pub path_rule : List ℕ
path_rule =
    codes "a Maildir's path ends in / and an mboxrd file's doesn't; it is one line with no $, and ~ only as ~/ in front"

-- a line that begins with a blank isn't what it looks like
abbrev pub after_blank : List ℕ
after_blank = codes "a line after a blank goes on with the value before it"

-- the rule that a value breaks, after the last line that has its key. No value has a comment after it
abbrev pub value_reason : Key → List ℕ → Option ℕ → List ℕ
value_reason key text None = text
value_reason key text (Some line) =
    codes "line " ++ (decimal line ++ (codes ": " ++ ((rule key).name ++ (codes ": " ++ (text
    ++ (codes "; a comment has a line of its own, and " ++ after_blank))))))

-- a file has a key that settings don't have, in its section on the server
abbrev pub has_other : List ℕ → List ℕ → Bool
has_other bytes key = is_some (other_value (codes "retriever") key (rows_of bytes))

-- no line has a key: others may be in its place
abbrev pub no_line : Key → List ℕ
no_line key = codes "no line of its section begins with " ++ ((rule key).name ++ (codes "; " ++ after_blank))

abbrev pub absent_reason : Key → List ℕ → List ℕ
absent_reason Password bytes =
    if has_other bytes (codes "passwd") then codes "the key passwd is not known: is password meant?"
    else if has_other bytes (codes "password_command")
    then codes "the key password_command is not known: the password itself is in the rc file, as password = .."
    else no_line Password
absent_reason key bytes = no_line key

-- a key is missing; a line may have meant it
abbrev pub missing_reason : Key → List ℕ → Option ℕ → List ℕ
missing_reason key bytes None = absent_reason key bytes
missing_reason key bytes (Some line) =
    codes "line " ++ (decimal line ++ (codes ": is " ++ ((rule key).name ++ codes " meant?")))

-- a file begins with a byte order mark
abbrev pub has_byte_order_mark : List ℕ → Bool
has_byte_order_mark bytes = starts_with nat_eq bytes (239 ∷ 187 ∷ 191 ∷ [])

-- why a line isn't understood, by whether it is the first one
abbrev pub line_reason : List ℕ → Bool → List ℕ
line_reason bytes is_first =
    if is_first && has_byte_order_mark bytes then codes "the file begins with a byte order mark: save it without one"
    else if not (is_utf8 bytes) then codes "the file is not in UTF-8: save it as UTF-8"
    else codes "a line is empty, a comment, a [section], or KEY = VALUE in one; after a blank a value goes on"

-- the flags that ask for opposite things
abbrev pub opposites : Words → List ℕ
opposites words =
    if words.flags.all && words.flags.new_only then codes "--all and --new"
    else if words.flags.delete && words.flags.dont_delete then codes "--delete and --dont-delete"
    else if words.unattended then codes "--unattended and --verbose" else codes "--quiet and --verbose"

-- why an rc file of these bytes has its fault; none if its line says all
abbrev pub known_reason : Words → List ℕ → RcFault → Option (List ℕ)
known_reason words bytes TooLong = Some (codes "an rc file has at most 65536 octets")
known_reason words bytes (BadLine line) = Some (line_reason bytes (line == 1))
known_reason words bytes (MissingSection section) =
    Some (codes "the names of sections are in small letters: [retriever], [destination], [options]")
known_reason words bytes (MissingKey key) = Some (missing_reason key bytes (fault_line bytes))
known_reason words bytes (UnknownType key) = Some (value_reason key (type_rule key) (fault_line bytes))
known_reason words bytes (BadValue key) = Some (value_reason key (value_rule key) (fault_line bytes))
known_reason words bytes (Unsupported key) = Some (value_reason key (codes "must be false") (fault_line bytes))
known_reason words bytes BadPath = Some (value_reason Path path_rule (fault_line bytes))
known_reason words bytes Contradiction = Some (opposites words)
known_reason words bytes fault = None

-- a path as a trace shows it
abbrev pub IsPathReason : List ℕ → List ℕ → Type 0
IsPathReason path reason = (line : List ℕ) × IsTraceLine [] path line × (reason ≡ without_last line)

-- a reason after that
abbrev pub IsAfterPath : List ℕ → List ℕ → List ℕ → Type 0
IsAfterPath path reason text =
    (shown : List ℕ) × IsPathReason path shown × (text ≡ shown ++ (codes ": " ++ reason))

-- what tells of a fault: the file's path, and after it the reason, if one is known; of flags the reason alone
abbrev pub IsReasonFor : List ℕ → RcFault → Option (List ℕ) → List ℕ → Type 0
IsReasonFor path fault None text = IsPathReason path text
IsReasonFor path Contradiction (Some reason) text = text ≡ reason
IsReasonFor path fault (Some reason) text = IsAfterPath path reason text
