-- The keys that have an effect, as a table, and the forms of their values.
use Rattle.std.specs.{
  Prelude.{ℕ, Bool, ◌&&◌, ◌||◌, List, [], ◌∷◌, map, nat_le, if◌then◌else◌, Option, Some, None, codes, bytes_eq},
  Char.to_ascii_lowercase,
  List.list_any,
  Str.Parse.digits_value,
}
use Rattle.mail_terms.specs.{Credential.is_credential, Numeral.is_numeral}
use Rattle.rc_file.specs.{
  Settings.{is_server, is_destination, destination_at},
  declared.settings.TheConstants.DELETE_AFTER_LIMIT,
  declared.key.Key.Key,
  declared.key.Key.TheVariants.{RetrieverKind, UseApop, Server, Port, Username, Password, DestinationKind, Path},
  declared.key.Key.TheVariants.{ReadAll, Delete, DeleteAfter, MaxSize, MaxCount, Verbose},
  declared.fault.RcFault.{RcFault, TheVariants.{UnknownType, BadValue, Unsupported, BadPath}},
}

-- the form of a key's values: one of these words; a boolean; a boolean that may not be true; a number from
-- low to high; the name of a server; a username or a password; a path
pub data ValueForm : Type 0 where
  kind : List (List ℕ) → ValueForm
  boolean : ValueForm
  never : ValueForm
  number : ℕ → ℕ → ValueForm
  server : ValueForm
  credential : ValueForm
  path : ValueForm

-- a key's section, its name there, the form of its values, and its default, if it has one; a key without a
-- default is required
pub record Rule : Type 0 where
  pub section : List ℕ
  pub name : List ℕ
  pub form : ValueForm
  pub default : Option (List ℕ)

abbrev pub without_default : List ℕ → List ℕ → ValueForm → Rule
without_default within word values = record { section = within; name = word; form = values; default = None }

abbrev pub with_default : List ℕ → List ℕ → ValueForm → List ℕ → Rule
with_default within word values text = record { section = within; name = word; form = values; default = Some text }

-- the sections that have keys
abbrev pub retriever_section : List ℕ
retriever_section = codes "retriever"

abbrev pub destination_section : List ℕ
destination_section = codes "destination"

abbrev pub option_section : List ℕ
option_section = codes "options"

-- the greatest TCP port
abbrev pub greatest_port : ℕ
greatest_port = 65535

-- the greatest value of a number without a limit of its own, which has 64 bits
abbrev pub greatest_value : ℕ
greatest_value = 18446744073709551615

abbrev pub rule : Key → Rule
rule RetrieverKind = without_default retriever_section (codes "type") (kind (codes "SimplePOP3Retriever" ∷ []))
rule UseApop = with_default retriever_section (codes "use_apop") never (codes "false")
rule Server = without_default retriever_section (codes "server") server
rule Port = with_default retriever_section (codes "port") (number 1 greatest_port) (codes "110")
rule Username = without_default retriever_section (codes "username") credential
rule Password = without_default retriever_section (codes "password") credential
rule DestinationKind = without_default destination_section (codes "type") (kind (codes "Maildir" ∷ codes "Mboxrd" ∷ []))
rule Path = without_default destination_section (codes "path") path
rule ReadAll = with_default option_section (codes "read_all") boolean (codes "true")
rule Delete = with_default option_section (codes "delete") boolean (codes "false")
rule DeleteAfter = with_default option_section (codes "delete_after") (number 0 DELETE_AFTER_LIMIT) (codes "0")
rule MaxSize = with_default option_section (codes "max_message_size") (number 0 greatest_value) (codes "0")
rule MaxCount = with_default option_section (codes "max_messages_per_session") (number 0 greatest_value) (codes "0")
rule Verbose = with_default option_section (codes "verbose") (number 0 greatest_value) (codes "1")

-- the keys of the table, in the order in which they are checked
abbrev pub all_keys : List Key
all_keys = RetrieverKind ∷ UseApop ∷ Server ∷ Port ∷ Username ∷ Password ∷ DestinationKind ∷ Path
    ∷ ReadAll ∷ Delete ∷ DeleteAfter ∷ MaxSize ∷ MaxCount ∷ Verbose ∷ []

-- the words for yes and for no, in upper or lower case
abbrev pub is_boolean_word : List ℕ → List ℕ → Bool
is_boolean_word text word = bytes_eq (map to_ascii_lowercase text) word

abbrev pub is_yes : List ℕ → Bool
is_yes text = list_any (is_boolean_word text) (codes "1" ∷ codes "yes" ∷ codes "true" ∷ codes "on" ∷ [])

abbrev pub is_no : List ℕ → Bool
is_no text = list_any (is_boolean_word text) (codes "0" ∷ codes "no" ∷ codes "false" ∷ codes "off" ∷ [])

abbrev pub is_number : ℕ → ℕ → List ℕ → Bool
is_number low high text = is_numeral text && nat_le low (digits_value 10 text) && nat_le (digits_value 10 text) high

-- what is wrong with a key's value; `folder` says that the destination is a Maildir
abbrev pub value_fault : ValueForm → Key → Bool → List ℕ → Option RcFault
value_fault (kind words) key folder text = if list_any (bytes_eq text) words then None else Some (UnknownType key)
value_fault boolean key folder text = if is_yes text || is_no text then None else Some (BadValue key)
value_fault never key folder text = if is_yes text then Some (Unsupported key) else if is_no text then None
    else Some (BadValue key)
value_fault (number low high) key folder text = if is_number low high text then None else Some (BadValue key)
value_fault server key folder text = if is_server text then None else Some (BadValue key)
value_fault credential key folder text = if is_credential text then None else Some (BadValue key)
value_fault path key folder text = if is_destination (destination_at folder text) then None else Some BadPath
