-- What the program writes to standard error, line by line.
use Rattle.std.specs.{
  Prelude.{◌++◌, ◌==◌, ◌&&◌, if◌then◌else◌, ℕ, Bool, false, not, List, [], bytes_eq, codes, decimal, flat_map},
  String.string_bytes,
  Char.{encode_utf8, is_control},
  Fmt.digits,
  Net.Text.socket_text,
  Str.chars,
}
use Rattle.pop3_server.specs.declared.{
  fault.ServerFault.{ServerFault, TheVariants.{MaildropFailed, NoMemory, ReadFailed, WriteFailed}},
  journal.Event.{Event, TheVariants.{Left, LoggedIn, Refused, Unavailable}},
}
use Rattle.popd_program.specs.declared.{
  failure.Failure.{Failure, TheVariants.{CannotListen, CannotRead, Fault, Unsafe, WrongCount}},
  telling.Peer.{Peer, TheVariants.{Address, StandardInput}},
  warning.Warning.{Warning, TheVariants.{Cut, Network, NoFolder, NoPassword, NoUser, NotRemoved, OpenPassfile}},
  warning.Warning.TheVariants.{Unread},
}

-- a control character is shown by its number in hexadecimal
abbrev pub shown_character : ℕ → List ℕ
shown_character c = if is_control c then codes "\\u{" ++ (digits 16 false c ++ codes "}") else encode_utf8 c

-- a path, as a line shows it
abbrev pub shown_path : List ℕ → List ℕ
shown_path path = flat_map shown_character (chars path)

abbrev pub words_of_fault : ServerFault → List ℕ
words_of_fault ReadFailed = codes "read failed"
words_of_fault WriteFailed = codes "write failed"
words_of_fault MaildropFailed = codes "maildrop failed"
words_of_fault NoMemory = codes "out of memory"

-- why nothing is served, or the program ends early
abbrev pub words_of_failure : Failure → List ℕ
words_of_failure WrongCount = codes "wrong number of arguments"
words_of_failure (CannotRead name) = codes "cannot read " ++ name.now
words_of_failure (CannotListen address) = codes "cannot listen on " ++ address.now
words_of_failure (Unsafe text) = string_bytes text
words_of_failure (Fault fault) = words_of_fault fault

-- why no client can give a name or a password
abbrev pub not_given : List ℕ
not_given = codes "it is empty, longer than 500 octets, or has a CR, LF or NUL in it"

abbrev pub no_folder : List ℕ → List ℕ → List ℕ
no_folder maildir name = shown_path maildir ++ (codes " has no folder " ++ name)

abbrev pub no_user : List ℕ
no_user = codes "no client can give this USER: " ++ not_given

abbrev pub no_password : List ℕ
no_password = codes "no client can give this password: " ++ not_given

abbrev pub open_passfile : List ℕ → List ℕ
open_passfile path = codes "others than its owner may read or write " ++ shown_path path

abbrev pub unencrypted : List ℕ
unencrypted = codes "password and mail go over the network unencrypted"

-- why a message isn't removed: what is where it was listed, or another file with its unique-id
abbrev pub not_removed : List ℕ → List ℕ → List ℕ
not_removed listed other = codes "not removed: " ++ (if bytes_eq listed other
    then shown_path listed ++ codes " isn't as it was listed"
    else shown_path listed ++ (codes " and " ++ (shown_path other
    ++ codes " have one unique-id but may be different messages")))

-- what follows 'popd: warning: '
abbrev pub words_of_warning : Warning → List ℕ
words_of_warning (NoFolder maildir name) = no_folder maildir.now name.now
words_of_warning NoUser = no_user
words_of_warning NoPassword = no_password
words_of_warning (OpenPassfile path) = open_passfile path.now
words_of_warning (Network address) = socket_text address ++ (codes " isn't loopback: " ++ unencrypted)
words_of_warning (Unread path) = codes "cannot read " ++ shown_path path.now
words_of_warning (NotRemoved two) = not_removed (string_bytes two.now.listed) (string_bytes two.now.other)
words_of_warning (Cut client fault) = socket_text client ++ (codes ": " ++ words_of_fault fault)

-- the client that is served
abbrev pub client_name : Peer → List ℕ
client_name StandardInput = codes "standard input"
client_name (Address address) = socket_text address

-- so many messages were removed and not removed
abbrev pub words_of_end : ℕ → ℕ → List ℕ
words_of_end removed refused = if refused == 0 then decimal removed ++ codes " messages removed"
    else decimal removed ++ (codes " messages removed, " ++ (decimal refused ++ codes " not removed"))

-- what follows the client's name
abbrev pub words_of_event : Event → List ℕ
words_of_event (LoggedIn messages) = codes "logged in, " ++ (decimal messages ++ codes " messages")
words_of_event Refused = codes "login refused"
words_of_event Unavailable = codes "maildrop unavailable"
words_of_event (Left removed refused) = words_of_end removed refused

-- with `--verbose` each event has a line, but for the end of a session in which nothing was to be removed
abbrev pub has_line : Bool → Event → Bool
has_line verbose (Left removed refused) = verbose && not (removed == 0 && refused == 0)
has_line verbose event = verbose
