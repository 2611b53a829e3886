-- The warnings of an rc file.
use Rattle.std.specs.{
  Prelude.{◌≡◌, ◌⊎◌, ◌==◌, ◌&&◌, ◌||◌, ◌++◌, ℕ, Bool, false, true, is_some, not, List, [], None, Some, codes},
  Prelude.{Err, Ok, Result},
  Fmt.decimal,
  Fs.metadata_mode,
  Int.Bits.bit_and,
  List.flat_map,
  String.string_bytes,
  declared.fs.attrs.Metadata.Metadata,
}
use Rattle.rc_file.specs.{
  FileRows.rows_of,
  OtherKey.other_value,
  RcText.warning_text,
  WarningSearch.warning_of,
  declared.{flags.Flags.Flags, settings.Settings.Settings, warning.Warning.Warning},
}
use Rattle.system_calls.specs.Line.{IsTraceLine}
use Rattle.getmail_setup.specs.{Failures.cause_line, Listed.without_end, Places.is_socket}

-- those of lines that have no effect
abbrev pub warned_line : Warning → List ℕ
warned_line warning = cause_line None [] (warning_text (warning_of warning))

abbrev pub warnings_text : List Warning → List ℕ
warnings_text warnings = flat_map warned_line warnings

-- a file's mode lets others than its owner read or write it, as far as that is known
abbrev pub says_open : {E : Type 0} → Result Metadata E → Bool
says_open (Ok found) = not (bit_and (metadata_mode found) 0o066 == 0)
says_open (Err error) = false

-- the warning of such a file, whose path is as a trace shows it
abbrev pub IsOthersText : List ℕ → List ℕ → Type 0
IsOthersText path text = (line : List ℕ)
    × IsTraceLine (codes "warning: others than its owner may read or write ") path line
    × (text ≡ without_end line ++ codes ": chmod 600 ends that")

-- it may be written; that the mode is asked for isn't said
abbrev pub IsToldOthers : List ℕ → Settings → List ℕ → Type 0
IsToldOthers path settings text = (text ≡ [])
    ⊎ ((reason : List ℕ) × IsOthersText path reason × (text ≡ cause_line (Some settings) [] reason))

-- servers have the port for TLS: a socket has none
abbrev pub has_tls_port : Settings → Bool
has_tls_port settings = not (is_socket (string_bytes settings.server)) && (settings.port == 993 || settings.port == 995)

-- of such a port a warning is written, if there is memory for it
abbrev pub IsToldPort : Settings → Bool → List ℕ → Type 0
IsToldPort settings false text = text ≡ []
IsToldPort settings true text = (text ≡ []) ⊎ (text ≡ cause_line (Some settings) []
    (codes "warning: port "
    ++ (decimal settings.port ++ codes " is for TLS, which getmail doesn't speak: use a tunnel")))

-- neither an rc file nor a flag says whether mail that was delivered is fetched again
abbrev pub leaves_read_all : Flags → List ℕ → Bool
leaves_read_all flags bytes =
    not (is_some (other_value (codes "options") (codes "read_all") (rows_of bytes)))
    && (not flags.all && not flags.new_only)

-- then it is: of that is warned
abbrev pub all_warning : Settings → Bool → List ℕ
all_warning settings false = []
all_warning settings true = cause_line (Some settings) (codes "warning: read_all is not set: ") (codes
    "each run fetches all mail again, and an mboxrd file gets it again; read_all = false in [options] ends that")

-- the warning is written, or memory ran out for finding out
abbrev pub IsToldAll : Settings → Bool → List ℕ → Type 0
IsToldAll settings leaves text = (text ≡ all_warning settings leaves) ⊎ (text ≡ [])
