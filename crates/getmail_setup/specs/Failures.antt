-- The lines and the exit statuses of runs that end before their session.
use Rattle.std.specs.{
  Prelude.{◌≡◌, ◌⊎◌, ◌↔◌, ◌==◌, ℕ, Bool, true, false, List, [], ◌++◌, Option, None, Some, IsSomeAnd, IsTrue, codes},
  Prelude.{◌∷◌, drop, length, nat_eq, nat_lt, not, if◌then◌else◌},
  IoError.error_kind,
  List.{list_any, prefix_len, starts_with},
  String.string_bytes,
  declared.io.ErrorKind.TheVariants.{PermissionDenied},
}
use Rattle.rc_file.specs.{RcText.rc_text, declared.{fault.RcFault.RcFault, settings.Settings.Settings}}
use Rattle.system_calls.specs.{Line.IsRefusalText, declared.refusal.Denial.{Denial}}
use Rattle.getmail_setup.specs.{
  Output.Puts,
  Places.{account_name, is_local, is_socket, peer_name},
  declared.errors.Errors.Errors,
  declared.failure.Failure.{Failure, TheVariants.{NoHome, CannotRead, Rc, OtherList, AtWork, CannotConnect, NoMemory}},
}

-- 1 if another run is at work or no connection was made, 2 for all that is found before
abbrev pub status_of : Failure → ℕ
status_of AtWork = 1
status_of (CannotConnect server port) = 1
status_of failure = 2

-- the line of a server that takes no connection: a socket has no port
abbrev pub unconnected_line : List ℕ → ℕ → List ℕ
unconnected_line server port = codes "getmail: cannot connect to " ++ (peer_name server port ++ codes "\n")

abbrev pub line_with : List ℕ → List ℕ
line_with text = codes "getmail: " ++ (text ++ codes "\n")

abbrev pub out_of_memory : List ℕ
out_of_memory = codes "getmail: out of memory\n"

-- the line of a fault of the rc file, which needs memory
abbrev pub IsRcLine : RcFault → List ℕ → Type 0
IsRcLine fault line = (line ≡ line_with (rc_text fault)) ⊎ (line ≡ out_of_memory)

-- the line of a first run in getmail6's place: its list, and where a record is wanted
abbrev pub other_list_line : List ℕ → List ℕ → List ℕ
other_list_line list path = codes "getmail: " ++ (list
    ++ (codes " lists what getmail6 fetched: make a record of it with from-getmail6.py, or an empty file "
    ++ (path ++ codes " to fetch all mail\n")))

abbrev pub IsFailureLine : Failure → List ℕ → Type 0
IsFailureLine NoHome line = line ≡ codes "getmail: HOME is not set\n"
IsFailureLine CannotRead line = line ≡ codes "getmail: cannot read rc file\n"
IsFailureLine (Rc fault) line = IsRcLine fault line
IsFailureLine (OtherList list path) line = line ≡ other_list_line list.now path.now
IsFailureLine AtWork line = line ≡ codes "getmail: another getmail is at work for this account\n"
IsFailureLine (CannotConnect server port) line = line ≡ unconnected_line server.now port
IsFailureLine NoMemory line = line ≡ out_of_memory

-- the account that a reason is about, if it is known
abbrev pub account_front : Option Settings → List ℕ
account_front None = []
account_front (Some settings) = account_name settings ++ codes ": "

-- a line with a reason after some words
abbrev pub cause_line : Option Settings → List ℕ → List ℕ → List ℕ
cause_line account words reason = codes "getmail: " ++ (account_front account ++ (words ++ (reason ++ codes "\n")))

-- why there is no lock: what was refused, and a reason; or, without memory for that, that it ran out
abbrev pub IsUnlockedReason : Denial → List ℕ → Type 0
IsUnlockedReason denial reason = (reason ≡ codes "out of memory")
    ⊎ IsSomeAnd denial.path (λ path. IsRefusalText (string_bytes path) reason)

-- another user's run may have left a file that can't be opened
abbrev pub lock_hint : Settings → Bool → List ℕ
lock_hint settings false = []
lock_hint settings true = cause_line (Some settings) []
    (codes "if a run of another user left that file, remove it: it is empty")

-- what is said of a run that goes on without a lock: a line with that, if reasons are asked for
abbrev pub IsToldUnlocked : Bool → Settings → Denial → List ℕ → Type 0
IsToldUnlocked false settings denial text = text ≡ []
IsToldUnlocked true settings denial text = (reason : List ℕ) × IsUnlockedReason denial reason
    × ((denied : Bool) × (IsTrue denied ↔ error_kind denial.error ≡ PermissionDenied)
    × (text ≡ cause_line (Some settings) (codes "no lock: ") reason ++ lock_hint settings denied))

-- the warning of a connection that leaves this machine, if reasons are asked for
abbrev pub network_warning : Bool → Settings → List ℕ
network_warning false settings = []
network_warning true settings = cause_line (Some settings) (codes "warning: ")
    (codes "password and mail go over the network unencrypted: use a tunnel")

-- where HOME is needed, and what else gives its place
abbrev pub home_reason : List ℕ
home_reason = codes "~/ begins in it, and so does the folder ~/.getmail: set it, or give --getmaildir and full paths"

-- what a first run in getmail6's place would do
abbrev pub list_reason : List ℕ
list_reason = codes "with read_all = false and no record, a run would fetch all its mail again"

-- what follows a failure's line: one with its reason, if that is known and reasons are asked for
abbrev pub IsToldCause : Bool → Option Settings → Failure → List ℕ → Type 0
IsToldCause false account failure text = text ≡ []
IsToldCause true account NoHome text = text ≡ cause_line account [] home_reason
IsToldCause true account (OtherList list path) text = text ≡ cause_line account [] list_reason
IsToldCause true account NoMemory text = text ≡ []
IsToldCause true account failure text = (text ≡ []) ⊎ ((reason : List ℕ) × (text ≡ cause_line account [] reason))

-- a name has one colon, as a host has with a port behind it; an address of IPv6 has more
abbrev pub is_no_colon : ℕ → Bool
is_no_colon octet = not (octet == 58)

abbrev pub has_no_colon : List ℕ → Bool
has_no_colon octets = prefix_len is_no_colon octets == length octets

abbrev pub is_port_behind : List ℕ → Bool
is_port_behind [] = false
is_port_behind (octet ∷ behind) = has_no_colon behind

abbrev pub has_port : List ℕ → Bool
has_port server = is_port_behind (drop (prefix_len is_no_colon server) server)

-- what is wrong with a server that is none
abbrev pub form_hint : List ℕ → List ℕ
form_hint server =
    if is_socket server then
    (if nat_lt 107 (length server) then codes "the path of a socket has at most 107 octets" else [])
    else if starts_with nat_eq server (codes "~")
    then codes "in server no ~ stands for your home: the path of a socket begins with /"
    else if list_any (λ octet. octet == 47) server
    then codes "server is the name or address of a host alone, without pop3:// and without a path"
    else if starts_with nat_eq server (codes "[") then codes "in server an address has no [ and ]"
    else if has_port server then codes "server is the name or address of a host alone: port is a key of its own"
    else []

-- what is wrong if a server on this machine takes no connection: a right is missing, or a tunnel isn't started
abbrev pub near_hint : List ℕ → Bool → List ℕ
near_hint server true = codes "only who may write to a socket can connect: is it a tunnel of your own?"
near_hint server false = if is_local server
    then codes "is the tunnel started? systemctl --user start getmail-tunnel.socket, or the command in stunnel.conf"
    else []

abbrev pub connect_hint : List ℕ → Bool → List ℕ
connect_hint server denied =
    if length (form_hint server) == 0 then near_hint server denied else form_hint server

-- a line with these words, if there are any
abbrev pub words_line : Option Settings → List ℕ → List ℕ
words_line account words = if length words == 0 then [] else cause_line account [] words

-- what may help if no connection was taken, by whether rights were missing, if reasons are asked for
abbrev pub start_hint : Bool → Bool → Option Settings → Failure → List ℕ
start_hint true denied account (CannotConnect server port) = words_line account (connect_hint server.now denied)
start_hint asked denied account failure = []

-- a failure's line was written, and then what follows it
pub record TellsFailure {E : Type 0} (contents : E → Option (List ℕ)) (account : Option Settings) (failure : Failure)
    (old new : Errors E) : Type 0 where
  pub line : List ℕ
  pub is_line : IsFailureLine failure line
  pub cause : List ℕ
  pub is_cause : IsToldCause old.says_why account failure cause
  pub denied : Bool
  pub puts : Puts contents old.err (line ++ (cause ++ start_hint old.says_why denied account failure)) new.err
