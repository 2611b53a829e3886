-- What may lie on the superuser's way.
use Rattle.std.specs.{
  Prelude.{◌==◌, ◌&&◌, ℕ, Bool, false, not, Option, None, Some, if◌then◌else◌},
  Int.Bits.bit_and,
}
use Rattle.safe_path.specs.declared.rule.{
  Found.Found,
  Kind.{Kind, TheVariants.{File, Folder, RegularFile, Socket}},
  Flaw.{Flaw, TheVariants.{NotRegular, OtherOwner, Writable}},
  Role.{Role, TheVariants.{Above, Last, Link}},
}

-- C's S_IFLNK and S_IFREG
abbrev pub has_links_mode : ℕ → Bool
has_links_mode mode = bit_and mode 0o170000 == 0o120000

abbrev pub has_files_mode : ℕ → Bool
has_files_mode mode = bit_and mode 0o170000 == 0o100000

-- the group, whatever it is, or all may write
abbrev pub lets_others_write : ℕ → Bool
lets_others_write mode = not (bit_and mode 0o022 == 0)

-- in such a folder a name is removed only by its owner
abbrev pub is_sticky : ℕ → Bool
is_sticky mode = not (bit_and mode 0o1000 == 0)

-- others may change what is there or what it leads to: never so of a link, of which only the owner matters, or of a
-- socket; of a folder above what is named, unless it is sticky
abbrev pub is_writable : Role → ℕ → Bool
is_writable Link mode = false
is_writable Above mode = lets_others_write mode && not (is_sticky mode)
is_writable (Last Folder) mode = lets_others_write mode
is_writable (Last File) mode = lets_others_write mode
is_writable (Last RegularFile) mode = lets_others_write mode
is_writable (Last Socket) mode = false

-- a file that has to be regular isn't
abbrev pub is_irregular : Role → ℕ → Bool
is_irregular (Last RegularFile) mode = not (has_files_mode mode)
is_irregular other mode = false

-- why a thing on the way is refused: all have to be the superuser's, and nobody else may change them
abbrev pub flaw_in : Role → Found → Option Flaw
flaw_in role found =
    if not (found.owner == 0) then Some (OtherOwner found.owner)
    else if is_irregular role found.mode then Some NotRegular
    else if is_writable role found.mode then Some (Writable found.mode)
    else None
