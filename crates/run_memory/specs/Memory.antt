-- What earlier runs told, and the file that keeps it.
use Rattle.std.specs.{
  Prelude.{◌≡◌, ◌≤◌, ℕ, List, [], ◌∷◌, ◌++◌, length, take, drop, flat_map, nat_lt, position, remove, codes, All},
  Prelude.{bytes_eq, if◌then◌else◌},
  Option.option_map_or,
}
use Rattle.mail_terms.specs.Text.{lines_of_text}
use Rattle.run_memory.specs.{
  Fields.IsFaultKey,
  declared.{
    line.{KnownFault.KnownFault, SaidNotice.SaidNotice, Line.{Line, TheVariants.{Left, Marks, Fault, Notice, Large}}},
    run.{LeftMarks.LeftMarks, RunMarks.RunMarks},
  },
  Lines.{
    AreNumbers,
    IsReadableFault,
    IsReadableNotice,
    known_fault_line,
    large_line,
    left_line,
    line_in,
    marks_line,
    notice_line,
  },
}

-- the faults that were seen, in the order in which they were told last; what is known of messages that were left out;
-- times of the account; the notices that were told, and the keys of messages that are too large
pub record Told : Type 0 where
  pub faults : List KnownFault
  pub left : LeftMarks
  pub marks : RunMarks
  pub notices : List SaidNotice
  pub large : List (List ℕ)

abbrev pub no_left : LeftMarks
no_left = record { unnamed = 0; limited = 0; repeated = 0 }

abbrev pub no_run_marks : RunMarks
no_run_marks = record { ended = 0; failing = 0; met = 0 }

abbrev pub nothing : Told
nothing = record { faults = []; left = no_left; marks = no_run_marks; notices = []; large = [] }

-- the items of a list without the first one, if there are as many as there may be
abbrev pub room : {X : Type 0} → ℕ → List X → List X
room most items = if nat_lt (length items) most then items else drop 1 items

-- at most 16 faults, 1,000 notices and 1,000 messages are kept: the last ones
abbrev pub with_fault : List KnownFault → KnownFault → List KnownFault
with_fault faults fault = room 16 faults ++ fault ∷ []

abbrev pub with_notice : List SaidNotice → SaidNotice → List SaidNotice
with_notice notices notice = room 1000 notices ++ notice ∷ []

abbrev pub with_large : List (List ℕ) → List ℕ → List (List ℕ)
with_large keys key = room 1000 keys ++ key ∷ []

-- the items that can be kept, and no more than may be
pub record AreFew {X : Type 0} (P : X → Type 0) (most : ℕ) (items : List X) : Type 0 where
  pub each : All P items
  pub few : length items ≤ most

-- each can be read, and there are no more than are kept
pub record IsKept (told : Told) : Type 0 where
  pub faults : AreFew IsReadableFault 16 told.faults
  pub left : AreNumbers told.left.unnamed told.left.limited told.left.repeated
  pub marks : AreNumbers told.marks.ended told.marks.failing told.marks.met
  pub notices : AreFew IsReadableNotice 1000 told.notices
  pub large : AreFew IsFaultKey 1000 told.large

-- ---- the file

-- its first line, with its LF
abbrev pub told_header : List ℕ
told_header = codes "getmail-told 2\n"

abbrev pub end : List ℕ
end = codes "end"

abbrev pub with_lf : List ℕ → List ℕ
with_lf line = line ++ 10 ∷ []

abbrev pub memory_text : Told → List ℕ
memory_text told =
    told_header ++ (with_lf (left_line told.left) ++ (with_lf (marks_line told.marks)
    ++ (flat_map (λ fault. with_lf (known_fault_line fault)) told.faults
    ++ (flat_map (λ notice. with_lf (notice_line notice)) told.notices
    ++ (flat_map (λ key. with_lf (large_line key)) told.large ++ end)))))

-- what is known after a line
abbrev pub with_line : Told → Line → Told
with_line told (Left left) = record told { left = left }
with_line told (Marks marks) = record told { marks = marks }
with_line told (Fault fault) = record told { faults = with_fault told.faults fault }
with_line told (Notice notice) = record told { notices = with_notice told.notices notice }
with_line told (Large key) = record told { large = with_large told.large key }

-- what is known after these lines, as far as the one that is `end`: nothing, if there is none, or another line that
-- isn't as it is written
abbrev pub told_after : Told → List (List ℕ) → Told
told_after told [] = nothing
told_after told (line ∷ lines) =
    if bytes_eq line end then told else option_map_or
    (λ said. told_after (with_line told said) lines) (line_in line) nothing

-- what the octets of a file say; nothing, if they aren't those of such a file
abbrev pub told_in : List ℕ → Told
told_in octets =
    if bytes_eq (take 15 octets) told_header then told_after nothing (lines_of_text (drop 15 octets)) else nothing

-- what is written is read back as the same, since no more than this is read
pub record IsReadBack (told : Told) : Type 0 where
  pub again : told_in (memory_text told) ≡ told
  pub fits : length (memory_text told) ≤ 196608
