-- How the program ends: the exit status, and what each failure says of the words.
use Rattle.std.specs.{
  Global.Global,
  Prelude.{◌≡◌, ◌≢◌, ◌||◌, ℕ, Bool, true, false, not, List, Some, Result, Ok, Err, String, is_some, option_map},
  Prelude.if◌then◌else◌,
  String.string_bytes,
}
use Rattle.pop3_server.specs.declared.fault.ServerFault.TheVariants.{NoMemory}
use Rattle.popd_program.specs.{
  CommandLine.{is_bare, has_all_words},
  declared.{
    failure.Failure.{Failure, TheVariants.{CannotListen, CannotRead, Fault, Unsafe, WrongCount}},
    words.Words.Words,
  },
}

-- 0: served; 1: a file, an address, the Maildir, the link or memory failed; 2: usage
abbrev pub status_of_serving : Result (Unit {0}) Failure → ℕ
status_of_serving (Ok done) = 0
status_of_serving (Err WrongCount) = 2
status_of_serving (Err (CannotRead name)) = 1
status_of_serving (Err (CannotListen address)) = 1
status_of_serving (Err (Unsafe text)) = 1
status_of_serving (Err (Fault fault)) = 1

-- as many words as are wanted: none for a rehearsal, else USER PASSFILE MAILDIR
abbrev pub has_right_count : Words → Bool
has_right_count words = if words.rehearse then is_bare words else has_all_words words

-- standard input and output are served, and no address
abbrev pub serves_streams : Words → Bool
serves_streams words = words.rehearse || not (is_some words.listen)

-- `name` is PASSFILE in the words, and it is needed
pub record NamesPassfile (words : Words) (name : List ℕ) : Type 0 where
  pub count : has_right_count words ≡ true
  pub wanted : words.rehearse ≡ false
  pub named : option_map string_bytes words.passfile ≡ Some name

-- `address` is ADDRESS in the words, and it is to be listened on
pub record NamesAddress (words : Words) (address : List ℕ) : Type 0 where
  pub count : has_right_count words ≡ true
  pub wanted : words.rehearse ≡ false
  pub named : option_map string_bytes words.listen ≡ Some address

-- a failure that says why the superuser is refused the Maildir
abbrev pub TellsUnsafe : Failure → Type 0
TellsUnsafe failure = (text : String Global) × (failure ≡ Unsafe text)

-- what a failure says of the words
abbrev pub IsCause : Words → Failure → Type 0
IsCause words WrongCount = has_right_count words ≡ false
IsCause words (CannotRead name) = NamesPassfile words name.now
IsCause words (CannotListen address) = NamesAddress words address.now
IsCause words (Unsafe text) = (has_right_count words ≡ true) × (words.rehearse ≡ false)
-- only the link of standard input and output ends the program; memory may run out anywhere
IsCause words (Fault fault) = (has_right_count words ≡ true) × (fault ≢ NoMemory → serves_streams words ≡ true)

-- a read of a file that can't be read was refused
abbrev pub IsUnread : (List ℕ → Type 0) → Failure → Type 0
IsUnread refused (CannotRead name) = refused name.now
IsUnread refused failure = Unit {0}
