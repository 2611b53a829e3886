-- Paths of the program's files.
use Rattle.std.specs.{
  Prelude.{◌≡◌, ◌+◌, ℕ, Bool, false, Ok, ◌||◌, nat_eq, List, [], ◌++◌, bytes_eq, drop, Option, Some, None, option_map},
  Prelude.{codes, if◌then◌else◌},
  Fmt.decimal,
  String.string_bytes,
  List.{starts_with, ends_with},
}
use Rattle.rc_file.specs.{
  RcMeaning.{Warned, rc_meaning},
  declared.{file.TheConstants.RC_LIMIT, flags.Flags.Flags},
  declared.settings.{Settings.Settings, Dest.{Dest, TheVariants.{Maildir, Mboxrd}}},
  Settings.{Content, IsValid, begins_at_home, content_of},
  Flags.{is_contradiction, overridden},
}
use Rattle.mail_store.specs.FileName.{account_text}
use Rattle.getmail_setup.specs.{
  Digest.digest_text,
  declared.{setup.{Paths.Paths, Setup.Setup}, words.Words.Words},
}

-- the path of a file of a folder, with one '/' between them
abbrev pub joined : List ℕ → List ℕ → List ℕ
joined folder file = if ends_with nat_eq folder (codes "/") then folder ++ file else (folder ++ codes "/") ++ file

-- the path isn't looked up in the program's folder
abbrev pub stands_alone : List ℕ → Bool
stands_alone path = starts_with nat_eq path (codes "/") || starts_with nat_eq path (codes "~/")

-- the path that is meant: one that begins with '~/' begins in the home; none if the home isn't known
abbrev pub whole_path : Option (List ℕ) → List ℕ → Option (List ℕ)
whole_path home path = if begins_at_home path then option_map (λ known. known ++ drop 1 path) home else Some path

-- the path of a destination, as the rc file has it
abbrev pub path_in : Dest → List ℕ
path_in (Maildir path) = string_bytes path
path_in (Mboxrd path) = string_bytes path

-- the folder of the rc file and the record: as given, or the default
abbrev pub folder_given : Option (List ℕ) → List ℕ
folder_given (Some path) = path
folder_given None = codes "~/.getmail"

abbrev pub folder_path : Option (List ℕ) → Option (List ℕ) → Option (List ℕ)
folder_path home given = whole_path home (folder_given given)

-- the rc file's path: a name in the folder, unless it begins with '/' or '~/'; 'getmailrc' if none is given
abbrev pub rc_path : Option (List ℕ) → List ℕ → Option (List ℕ) → Option (List ℕ)
rc_path home folder None = Some (joined folder (codes "getmailrc"))
rc_path home folder (Some path) = if stands_alone path then whole_path home path else Some (joined folder path)

-- a server is the absolute path of a socket
abbrev pub is_socket : List ℕ → Bool
is_socket server = starts_with nat_eq server (codes "/")

-- what a connection is called in a trace: a socket's path, or an address with its port
abbrev pub peer_name : List ℕ → ℕ → List ℕ
peer_name server port = if is_socket server then server else server ++ (codes ":" ++ decimal port)

-- what an account is called in the lines about it
abbrev pub account_name : Settings → List ℕ
account_name settings =
    string_bytes settings.username ++ (codes "@" ++ peer_name (string_bytes settings.server) settings.port)

-- a server is on this machine, as a tunnel is: a socket's path, or a loopback address
abbrev pub is_local : List ℕ → Bool
is_local server = is_socket server || (starts_with nat_eq server (codes "127.")
    || (bytes_eq server (codes "localhost") || bytes_eq server (codes "::1")))

-- the digits that tell the account of the settings apart
abbrev pub account_digits : Settings → List ℕ
account_digits settings = account_text (string_bytes settings.server) settings.port (string_bytes settings.username)

-- a file of an account is in the folder, under a name that has the account's digits after a front
abbrev pub account_path : List ℕ → List ℕ → Settings → List ℕ
account_path folder front settings = joined folder (front ++ account_digits settings)

-- the settings are those that an rc file of these octets means, changed by the flags, which aren't opposite
pub record AreAsked (flags : Flags) (bytes : List ℕ) (settings : Settings) : Type 0 where
  pub content : Content
  pub warnings : List Warned
  pub meant : rc_meaning bytes ≡ Ok (content, warnings)
  pub agree : is_contradiction flags ≡ false
  pub changed : content_of settings ≡ overridden content flags

-- with this home the destination is the one of the settings, the record and the lock are in the folder that the words
-- name, and what is cut off from an mboxrd file is kept beside the record
pub record AreFor (home : Option (List ℕ)) (words : Words) (settings : Settings) (paths : Paths) : Type 0 where
  pub destination_is : whole_path home (path_in settings.dest) ≡ Some (string_bytes paths.destination)
  pub folder : List ℕ
  pub folder_is : folder_path home (option_map string_bytes words.dir) ≡ Some folder
  pub record_is : string_bytes paths.record ≡ account_path folder (codes "seen-") settings
  pub lock_is : string_bytes paths.lock ≡ account_path folder (codes "lock-") settings
  pub rests_is : string_bytes paths.rests ≡ string_bytes paths.record ++ codes ".rest"

-- a path is in the folder that the words name, and its name has the digest of the rc file's path
pub record IsToldPath (home : Option (List ℕ)) (words : Words) (path : List ℕ) : Type 0 where
  pub folder : List ℕ
  pub folder_is : folder_path home (option_map string_bytes words.dir) ≡ Some folder
  pub rc : List ℕ
  pub rc_is : rc_path home folder (option_map string_bytes words.rcfile) ≡ Some rc
  pub is : path ≡ joined folder (codes "told-" ++ digest_text rc [])

-- a path is that of the rc file that the words name
pub record IsRcPath (home : Option (List ℕ)) (words : Words) (path : List ℕ) : Type 0 where
  pub folder : List ℕ
  pub folder_is : folder_path home (option_map string_bytes words.dir) ≡ Some folder
  pub is : rc_path home folder (option_map string_bytes words.rcfile) ≡ Some path

-- what reads of files gave: for each path, and most octets, these octets
abbrev pub Reads : Type 1
Reads = List ℕ → ℕ → List ℕ → Type 0

-- one octet more than an rc file may have
abbrev pub rc_room : ℕ
rc_room = RC_LIMIT + 1

-- these settings are what the rc file means that the words name, by the octets that a read of it gave
pub record AreRead (gave : Reads) (home : Option (List ℕ)) (words : Words) (settings : Settings) : Type 0 where
  pub path : List ℕ
  pub path_is : IsRcPath home words path
  pub bytes : List ℕ
  pub given : gave path rc_room bytes
  pub asked : AreAsked words.flags bytes settings

-- a run's settings and paths are those that the rc file, the words and the home mean
pub record IsSetUp (gave : Reads) (home : Option (List ℕ)) (words : Words) (setup : Setup) : Type 0 where
  pub valid : IsValid setup.settings
  pub read : AreRead gave home words setup.settings
  pub placed : AreFor home words setup.settings setup.paths
  pub pretends : setup.pretends ≡ words.pretend
