-- How a record shows that a server may have given its messages new ids. A row ends in the second at which its message
-- was first seen, and 1 if it was delivered, else 0; a message that is new gets a row with 0 first.
use Rattle.std.specs.{
  Prelude.{◌≡◌, ◌&&◌, ◌==◌, ◌++◌, ℕ, Bool, true, false, not, List, Option, None, Some, codes, length, nat_eq, nat_le},
  Prelude.if◌then◌else◌,
  Fmt.decimal,
  List.{ends_with, filter_map, list_any, starts_with},
}
use Rattle.mail_terms.specs.Text.{lines_of_text}
use Rattle.rc_file.specs.declared.settings.Settings.{Settings}

-- the end of the row of a message that was first seen at a second
abbrev pub row_end : ℕ → List ℕ → List ℕ
row_end second flag = codes " " ++ (decimal second ++ flag)

abbrev pub mark_for : List ℕ → List ℕ → Option Bool
mark_for end line = if ends_with nat_eq line end then Some true else None

-- so many messages were first seen then
abbrev pub first_seen_at : ℕ → List ℕ → ℕ
first_seen_at second text = length (filter_map (mark_for (row_end second (codes " 0"))) (lines_of_text text))

-- a message was delivered, and not one with this end of its row; before a group of rows stands a line with a '+' and
-- their number
abbrev pub is_older_delivery : List ℕ → List ℕ → Bool
is_older_delivery end line = ends_with nat_eq line (codes " 1")
    && (not (starts_with nat_eq line (codes "+ ")) && not (ends_with nat_eq line end))

-- ten messages or more were listed, as many were first seen then, and one that was seen before is delivered
abbrev pub are_all_new : ℕ → ℕ → List ℕ → Bool
are_all_new second listed text = nat_le 10 listed && ((first_seen_at second text == listed)
    && list_any (is_older_delivery (row_end second (codes " 1"))) (lines_of_text text))

-- a run deletes nothing, and the record at a path, of which these octets were read, shows that of all that it listed
pub record SaysNewIds (gave : List ℕ → ℕ → List ℕ → Type 0) (settings : Settings) (second : ℕ) (path : List ℕ)
    (listed : ℕ) : Type 0 where
  pub keeps : settings.delete ≡ false
  pub keeps_old : settings.delete_after ≡ 0
  pub text : List ℕ
  pub given : gave path 268435456 text
  pub new : are_all_new second listed text ≡ true
