-- The texts of an rc file's faults and warnings.
use Rattle.std.specs.Prelude.{ℕ, List, [], ◌++◌, length, ◌==◌, if◌then◌else◌, codes, decimal}
use Rattle.rc_file.specs.{
  KeyTable.rule,
  declared.fault.RcFault.RcFault,
  declared.fault.RcFault.TheVariants.{TooLong, BadLine, MissingSection, MissingKey, UnknownType, BadValue, Unsupported},
  declared.fault.RcFault.TheVariants.{BadPath, Contradiction, NoMemory},
  declared.key.Key.Key,
  RcMeaning.{Warned, section_name},
  FileRows.{RcRow, section_row, key_row, bad_row},
}

-- a key with its section, as "retriever.port"
abbrev pub key_text : Key → List ℕ
key_text key = (rule key).section ++ codes "." ++ (rule key).name

abbrev pub rc_text : RcFault → List ℕ
rc_text TooLong = codes "rc file too long"
rc_text (BadLine line) = codes "rc file line " ++ decimal line ++ codes " not understood"
rc_text (MissingSection section) = codes "section [" ++ section_name section ++ codes "] missing"
rc_text (MissingKey key) = key_text key ++ codes " missing"
rc_text (UnknownType key) = key_text key ++ codes " unknown"
rc_text (BadValue key) = key_text key ++ codes " has a bad value"
rc_text (Unsupported key) = key_text key ++ codes " unsupported"
rc_text BadPath = codes "destination.path has a bad form"
rc_text Contradiction = codes "opposite flags"
rc_text NoMemory = codes "out of memory"

-- the warnings: for a section, and for a key with its section
abbrev pub section_warning : ℕ → List ℕ → List ℕ
section_warning line section = codes "warning: line " ++
    (decimal line ++ (codes ": section [" ++ (section ++ codes "] has no effect")))

abbrev pub key_warning : ℕ → List ℕ → List ℕ → List ℕ
key_warning line section key =
    codes "warning: line " ++
    (decimal line ++ (codes ": " ++ (section ++ (codes "." ++ (key ++ codes " has no effect")))))

abbrev pub warning_text : Warned → List ℕ
warning_text warning =
    if length warning.key == 0 then section_warning warning.line warning.section
    else key_warning warning.line warning.section warning.key

-- a row without its value
abbrev pub without_value : RcRow → RcRow
without_value (section_row line name) = section_row line name
without_value (key_row line section key value) = key_row line section key []
without_value (bad_row line) = bad_row line
