-- What settings hold, and which values they may hold.
use Rattle.std.specs.{
  Prelude.{ℕ, ◌≤◌, Bool, not, ◌&&◌, List, length, ◌==◌, nat_lt, nat_eq, if◌then◌else◌, true, IsTrue, codes},
  Prelude.string_bytes,
  List.{list_all, starts_with, ends_with},
}
use Rattle.mail_terms.specs.Credential.{is_credential}
use Rattle.rc_file.specs.declared.settings.{
  TheConstants.DELETE_AFTER_LIMIT,
  Settings.Settings,
  Dest.{Dest, TheVariants.{Maildir, Mboxrd}},
}

-- a byte other than LF and NUL
abbrev pub is_server_byte : ℕ → Bool
is_server_byte byte = not (byte == 10) && not (byte == 0)

-- the name of a server: not empty
abbrev pub is_server : List ℕ → Bool
is_server text = nat_lt 0 (length text) && list_all is_server_byte text

-- a byte other than LF, NUL and '$'
abbrev pub is_path_byte : ℕ → Bool
is_path_byte byte = not (byte == 10) && not (byte == 0) && not (byte == 36)

-- the path begins in the home: with "~/"
abbrev pub begins_at_home : List ℕ → Bool
begins_at_home path = starts_with nat_eq path (codes "~/")

-- a path that can be used: not empty, and it begins with '~' only as "~/"
abbrev pub is_path : List ℕ → Bool
is_path path =
    nat_lt 0 (length path) && list_all is_path_byte path
    && (if starts_with nat_eq path (codes "~") then begins_at_home path else true)

abbrev pub ends_in_slash : List ℕ → Bool
ends_in_slash path = ends_with nat_eq path (codes "/")

-- the path of a Maildir ends in '/', and that of an mboxrd file doesn't
abbrev pub is_maildir_path : List ℕ → Bool
is_maildir_path path = is_path path && ends_in_slash path

abbrev pub is_mboxrd_path : List ℕ → Bool
is_mboxrd_path path = is_path path && not (ends_in_slash path)

-- a destination as a value
pub data Destination : Type 0 where
  maildir : List ℕ → Destination
  mboxrd : List ℕ → Destination

-- a Maildir at this path, or else an mboxrd file
abbrev pub destination_at : Bool → List ℕ → Destination
destination_at folder path = if folder then maildir path else mboxrd path

abbrev pub destination_of : Dest → Destination
destination_of (Maildir path) = maildir (string_bytes path)
destination_of (Mboxrd path) = mboxrd (string_bytes path)

abbrev pub is_destination : Destination → Bool
is_destination (maildir path) = is_maildir_path path
is_destination (mboxrd path) = is_mboxrd_path path

-- settings as a value
pub record Content : Type 0 where
  pub server : List ℕ
  pub port : ℕ
  pub username : List ℕ
  pub password : List ℕ
  pub dest : Destination
  pub read_all : Bool
  pub delete : Bool
  pub delete_after : ℕ
  pub max_size : ℕ
  pub max_count : ℕ
  pub verbose : ℕ

abbrev pub content_of : Settings → Content
content_of settings = record {
  server = string_bytes settings.server;
  port = settings.port;
  username = string_bytes settings.username;
  password = string_bytes settings.password;
  dest = destination_of settings.dest;
  read_all = settings.read_all;
  delete = settings.delete;
  delete_after = settings.delete_after;
  max_size = settings.max_size;
  max_count = settings.max_count;
  verbose = settings.verbose;
}

-- the settings hold only values that an rc file may give. The types of the fields say the rest
pub record IsValid (settings : Settings) : Type 0 where
  pub valid_server : IsTrue (is_server (string_bytes settings.server))
  pub valid_port : 1 ≤ settings.port
  pub valid_username : IsTrue (is_credential (string_bytes settings.username))
  pub valid_password : IsTrue (is_credential (string_bytes settings.password))
  pub valid_dest : IsTrue (is_destination (destination_of settings.dest))
  pub valid_delete_after : settings.delete_after ≤ DELETE_AFTER_LIMIT
  pub valid_verbose : settings.verbose ≤ 2
