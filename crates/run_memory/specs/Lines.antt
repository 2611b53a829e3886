-- The lines of the file that keeps what was told, after the first one.
use Rattle.std.specs.{
  Prelude.{◌≡◌, ◌<◌, ◌^◌, ℕ, List, [], ◌∷◌, ◌++◌, Option, Some, None, codes, decimal, bytes_eq, option_map},
  Prelude.if◌then◌else◌,
  List.{before_first, after_first},
}
use Rattle.mail_terms.specs.Numeral.{numeral_value}
use Rattle.run_memory.specs.{
  Fields.{◌>>=◌, IsFaultKey, is_separator, key_in, numbers_in},
  declared.line.{
    KnownFault.KnownFault,
    SaidNotice.SaidNotice,
    Line.{Line, TheVariants.{Left, Marks, Fault, Notice, Large}},
  },
  declared.times.Times.Times,
  declared.run.{LeftMarks.LeftMarks, RunMarks.RunMarks},
}

-- three numbers, as a line has them
abbrev pub numbers_text : ℕ → ℕ → ℕ → List ℕ
numbers_text first second third = decimal first ++ 32 ∷ (decimal second ++ 32 ∷ decimal third)

-- the line on what was left out: how many messages are too large beside those that were named, since when each run
-- reached the limit, and how many have a repeated id
abbrev pub left_line : LeftMarks → List ℕ
left_line left = codes "left " ++ numbers_text left.unnamed left.limited left.repeated

-- the line of times: when an end was told last, since when runs fail whose end wasn't told, and since when another
-- run's lock is met
abbrev pub marks_line : RunMarks → List ℕ
marks_line marks = codes "marks " ++ numbers_text marks.ended marks.failing marks.met

-- the line of a fault: its key, when it was first seen, when it was told last, and in how many runs it was seen
abbrev pub known_fault_line : KnownFault → List ℕ
known_fault_line fault =
    codes "fault " ++ (fault.key ++ 32 ∷ numbers_text fault.times.since fault.times.told fault.times.runs)

-- the line of a notice: its key, and when it was told last
abbrev pub notice_line : SaidNotice → List ℕ
notice_line notice = codes "said " ++ (notice.key ++ 32 ∷ decimal notice.told)

-- the line of a message that is too large
abbrev pub large_line : List ℕ → List ℕ
large_line key = codes "large " ++ key

abbrev pub left_marks_of : ℕ × ℕ × ℕ → LeftMarks
left_marks_of numbers = record { unnamed = numbers.0; limited = numbers.1; repeated = numbers.2 }

abbrev pub marks_of : ℕ × ℕ × ℕ → RunMarks
marks_of numbers = record { ended = numbers.0; failing = numbers.1; met = numbers.2 }

abbrev pub times_of : ℕ × ℕ × ℕ → Times
times_of numbers = record { since = numbers.0; told = numbers.1; runs = numbers.2 }

abbrev pub left_in : List ℕ → Option Line
left_in octets = option_map (λ numbers. Left (left_marks_of numbers)) (numbers_in octets)

abbrev pub marks_in : List ℕ → Option Line
marks_in octets = option_map (λ numbers. Marks (marks_of numbers)) (numbers_in octets)

abbrev pub known_fault_in : List ℕ → Option KnownFault
known_fault_in octets = do
  key ← key_in (before_first is_separator octets)
  numbers ← numbers_in (after_first is_separator octets)
  Some (record { key = key; times = times_of numbers })

abbrev pub notice_in : List ℕ → Option SaidNotice
notice_in octets = do
  key ← key_in (before_first is_separator octets)
  told ← numeral_value (after_first is_separator octets)
  Some (record { key = key; told = told })

-- what a line of a word says; none of them if it is another word
abbrev pub said_by : List ℕ → List ℕ → Option Line
said_by word rest =
    if bytes_eq word (codes "left") then left_in rest
    else if bytes_eq word (codes "marks") then marks_in rest
    else if bytes_eq word (codes "fault") then option_map Fault (known_fault_in rest)
    else if bytes_eq word (codes "said") then option_map Notice (notice_in rest)
    else if bytes_eq word (codes "large") then option_map Large (key_in rest)
    else None

-- what a line says; none of them if it is another line
abbrev pub line_in : List ℕ → Option Line
line_in line = said_by (before_first is_separator line) (after_first is_separator line)

-- numbers of 64 bits
pub record AreNumbers (one two three : ℕ) : Type 0 where
  pub one_fits : one < 2 ^ 64
  pub two_fits : two < 2 ^ 64
  pub three_fits : three < 2 ^ 64

-- a fault that can be read back
pub record IsReadableFault (fault : KnownFault) : Type 0 where
  pub key : IsFaultKey fault.key
  pub times : AreNumbers fault.times.since fault.times.told fault.times.runs

-- a notice that can be read back
pub record IsReadableNotice (notice : SaidNotice) : Type 0 where
  pub key : IsFaultKey notice.key
  pub told : notice.told < 2 ^ 64
