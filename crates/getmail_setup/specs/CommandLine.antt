-- The command line: its options and flags, and what words ask for.
use Rattle.std.specs.{Prelude.{◌≡◌, ◌&&◌, ◌||◌, Bool, List, codes, not, option_map, if◌then◌else◌}, String.string_bytes}
use Rattle.clap.specs.{
  Words.{App, Row, count_of, first_of, with_rule},
  declared.error.kind.ErrorKind.{ErrorKind, TheVariants.OutOfMemory},
}
use Rattle.command_line.specs.Rules.{flag_rule, is_asked_text, is_given, long_flag_rule, program, option_rule}
use Rattle.rc_file.specs.declared.flags.Flags.{Flags}
use Rattle.getmail_setup.specs.declared.words.{
  Words.Words,
  WordsFault.{WordsFault, TheVariants.{Help, Usage, NoMemory}},
}

-- -r FILE, -g DIR
abbrev pub with_places : App → App
with_places app = with_rule (with_rule app (option_rule (codes "rcfile") 114)) (option_rule (codes "getmaildir") 103)

-- -v, -q, --why, --trace, --unattended
abbrev pub with_loudness : App → App
with_loudness app =
    with_rule (with_rule (with_rule (with_rule (with_rule app
    (flag_rule (codes "verbose") 118)) (flag_rule (codes "quiet") 113)) (long_flag_rule (codes "why")))
    (long_flag_rule (codes "trace")))
    (long_flag_rule (codes "unattended"))

-- -a, -n, -d, -l
abbrev pub with_choices : App → App
with_choices app =
    with_rule (with_rule (with_rule (with_rule app
    (flag_rule (codes "all") 97)) (flag_rule (codes "new") 110)) (flag_rule (codes "delete") 100))
    (flag_rule (codes "dont-delete") 108)

abbrev pub getmail : App
getmail =
    with_rule (with_rule (with_choices (with_loudness (with_places (program (codes "getmail")))))
    (long_flag_rule (codes "pretend"))) (long_flag_rule (codes "rehearse"))

-- nobody waits for what is written, unless it is a rehearsal
abbrev pub is_unattended : List Row → Bool
is_unattended rows = is_given (codes "unattended") rows && not (is_given (codes "rehearse") rows)

-- the flags that were given; --unattended stands for --quiet
abbrev pub flags_in : List Row → Flags
flags_in rows = record {
  all = is_given (codes "all") rows;
  new_only = is_given (codes "new") rows;
  delete = is_given (codes "delete") rows;
  dont_delete = is_given (codes "dont-delete") rows;
  quiet = is_given (codes "quiet") rows || is_unattended rows;
  verbose = count_of (codes "verbose") rows;
}

-- the matches ask for this
pub record AsksFor (rows : List Row) (words : Words) : Type 0 where
  pub rcfile : option_map string_bytes words.rcfile ≡ first_of (codes "rcfile") rows
  pub dir : option_map string_bytes words.dir ≡ first_of (codes "getmaildir") rows
  pub flags : words.flags ≡ flags_in rows
  pub rehearse : words.rehearse ≡ is_given (codes "rehearse") rows
  pub pretend : words.pretend ≡ is_given (codes "pretend") rows
  pub why : words.why ≡ is_given (codes "why") rows
  pub unattended : words.unattended ≡ is_unattended rows
  pub trace : words.trace ≡ is_given (codes "trace") rows

-- why words ask for nothing, by the kind of clap's error
abbrev pub words_fault : ErrorKind → WordsFault
words_fault OutOfMemory = NoMemory
words_fault kind = if is_asked_text kind then Help else Usage
