-- What an rc file means: its rows are read first, and then everything is looked up in them.
use Rattle.std.specs.{
  Prelude.{ℕ, Bool, false, not, ◌&&◌, List, [], ◌∷◌, length, map, min, nat_lt, if◌then◌else◌, Option, Some, None, Ok},
  Prelude.{Result, Err, codes, unwrap_or, bytes_eq},
  List.{filter, filter_map, last_or, list_any},
  Str.Parse.digits_value,
}
use Rattle.rc_file.specs.{
  KeyTable.{rule, value_fault, is_yes, retriever_section, destination_section, all_keys},
  FileRows.{RcRow, section_row, key_row, bad_row, rows_of},
  Settings.{Content, Destination, destination_at},
  declared.file.TheConstants.RC_LIMIT,
  declared.key.Section.{Section, TheVariants.{Retriever, Destination as DestinationSection}},
  declared.key.Key.Key,
  declared.key.Key.TheVariants.{Server, Port, Username, Password, DestinationKind, Path, ReadAll, Delete, DeleteAfter},
  declared.key.Key.TheVariants.{MaxSize, MaxCount, Verbose},
  declared.fault.RcFault.{RcFault, TheVariants.{TooLong, BadLine, MissingSection, MissingKey}},
}

-- the first bad line
abbrev pub first_bad : List RcRow → Option RcFault
first_bad [] = None
first_bad (section_row line name ∷ rows) = first_bad rows
first_bad (key_row line section key value ∷ rows) = first_bad rows
first_bad (bad_row line ∷ rows) = Some (BadLine line)

-- a file has a section if it has its line, with keys or without; names are compared exactly
abbrev pub section_name : Section → List ℕ
section_name Retriever = retriever_section
section_name DestinationSection = destination_section

abbrev pub is_section : List ℕ → RcRow → Bool
is_section name (section_row line other) = bytes_eq other name
is_section name (key_row line section key value) = false
is_section name (bad_row line) = false

abbrev pub missing_section : List RcRow → Section → Option RcFault
missing_section rows section = if list_any (is_section (section_name section)) rows then None
    else Some (MissingSection section)

-- a row's value, if it is a row of the key
abbrev pub value_at : Key → RcRow → Option (List ℕ)
value_at key (section_row line name) = None
value_at key (key_row line section name value) =
    if bytes_eq section (rule key).section && bytes_eq name (rule key).name then Some value else None
value_at key (bad_row line) = None

-- a key's value is that of its last row, or its default
unfoldable pub value_of : List RcRow → Key → Option (List ℕ)
value_of rows key = last_or (rule key).default (filter_map (value_at key) rows)

abbrev pub value_text : List RcRow → Key → List ℕ
value_text rows key = unwrap_or (value_of rows key) []

abbrev pub number_in : List RcRow → Key → ℕ
number_in rows key = digits_value 10 (value_text rows key)

abbrev pub is_true : List RcRow → Key → Bool
is_true rows key = is_yes (value_text rows key)

abbrev pub is_folder : List RcRow → Bool
is_folder rows = bytes_eq (value_text rows DestinationKind) (codes "Maildir")

-- what is wrong with a key
abbrev pub fault_of_key : Key → Bool → Option (List ℕ) → Option RcFault
fault_of_key key folder None = Some (MissingKey key)
fault_of_key key folder (Some text) = value_fault (rule key).form key folder text

unfoldable pub fault_at : List RcRow → Key → Option RcFault
fault_at rows key = fault_of_key key (is_folder rows) (value_of rows key)

-- the first fault, if there is one
abbrev pub first_fault : List (Option RcFault) → Option RcFault
first_fault [] = None
first_fault (None ∷ faults) = first_fault faults
first_fault (Some fault ∷ faults) = Some fault

-- all that can be wrong with a file of these rows; the first fault decides
abbrev pub faults_of : List ℕ → List RcRow → List (Option RcFault)
faults_of bytes rows =
    (if nat_lt RC_LIMIT (length bytes) then Some TooLong else None)
    ∷ first_bad rows ∷ missing_section rows Retriever ∷ missing_section rows DestinationSection ∷ map
    (fault_at rows) all_keys

-- the settings, if nothing is wrong
abbrev pub destination_in : List RcRow → Destination
destination_in rows = destination_at (is_folder rows) (value_text rows Path)

abbrev pub settings_in : List RcRow → Content
settings_in rows = record {
  server = value_text rows Server;
  port = number_in rows Port;
  username = value_text rows Username;
  password = value_text rows Password;
  dest = destination_in rows;
  read_all = is_true rows ReadAll;
  delete = is_true rows Delete;
  delete_after = number_in rows DeleteAfter;
  max_size = number_in rows MaxSize;
  max_count = number_in rows MaxCount;
  verbose = min (number_in rows Verbose) 2;
}

-- a warning as a value: its line, its section and, if it is about a key, the key
pub record Warned : Type 0 where
  pub line : ℕ
  pub section : List ℕ
  pub key : List ℕ

-- the row as a warning gives it; a key is never empty
abbrev pub warned : RcRow → Warned
warned (section_row number name) = record { line = number; section = name; key = [] }
warned (key_row number within word value) = record { line = number; section = within; key = word }
warned (bad_row number) = record { line = number; section = []; key = [] }

-- a section that has a key in the table
abbrev pub is_known_section : List ℕ → Bool
is_known_section name = list_any (λ key. bytes_eq name (rule key).section) all_keys

abbrev pub is_named : List ℕ → List ℕ → Key → Bool
is_named section name key = bytes_eq section (rule key).section && bytes_eq name (rule key).name

-- a key of the table
abbrev pub is_known_key : List ℕ → List ℕ → Bool
is_known_key section name = list_any (is_named section name) all_keys

-- a section has no effect if the table doesn't have it; a key has none if the table has its section, but not
-- the key
abbrev pub has_no_effect : RcRow → Bool
has_no_effect (section_row line name) = not (is_known_section name)
has_no_effect (key_row line section key value) = is_known_section section && not (is_known_key section key)
has_no_effect (bad_row line) = false

-- two rows of one section, or of one key
abbrev pub is_same : Warned → Warned → Bool
is_same a b = bytes_eq a.section b.section && bytes_eq a.key b.key

-- the rows, each section and key once, without those in `told`
abbrev pub firsts : List Warned → List Warned → List Warned
firsts told [] = []
firsts told (row ∷ rows) =
    if list_any (λ earlier. is_same earlier row) told then firsts told rows else row ∷ firsts (row ∷ told) rows

-- each section or key without effect is warned of once, at its first line, in the order of lines
abbrev pub warnings_in : List RcRow → List Warned
warnings_in rows = firsts [] (map warned (filter has_no_effect rows))

-- the first fault, or else the settings and the warnings
abbrev pub meant : Option RcFault → List RcRow → Result (Content × List Warned) RcFault
meant None rows = Ok (settings_in rows, warnings_in rows)
meant (Some fault) rows = Err fault

unfoldable pub rc_meaning : List ℕ → Result (Content × List Warned) RcFault
rc_meaning bytes = meant (first_fault (faults_of bytes (rows_of bytes))) (rows_of bytes)
