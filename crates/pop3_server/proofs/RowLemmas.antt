-- Rows, marked and unmarked.
use Rattle.std.proofs.{
  Common.{◌≡◌, ℕ, zero, suc, ◌<◌, ◌≤◌, Bool, true, List, [], ◌∷◌, ◌++◌, map, length, get_or, slice_set, refl, ap, arith, All},
  lemmas.List.Elements.All-push,
}
use Rattle.pop3_server.specs.{
  declared.rows.MessageRow.MessageRow,
  Maildrop.{listed_message, max_size},
  ServerMachine.{with_mark, unmarked, mark_at, IsSmall, SamePlaces},
}
use Rattle.pop3_wire.specs.World.{Message}

-- a row that is written back with its mark
pub set_mark : (rows : List MessageRow) (i : ℕ) (row : MessageRow) → row ≡ get_or rows i row → i < length rows
    → slice_set rows i (record { entry = row.entry; marked = true }) ≡ mark_at rows i
set_mark [] i row is fits = absurd (omega arith)
set_mark (first ∷ rows) zero row is fits = ap (λ (r : MessageRow). with_mark r ∷ rows) is
set_mark (first ∷ rows) (suc i) row is fits = ap (λ l. first ∷ l) (set_mark rows i row is (omega arith))

pub places_stay : (rows : List MessageRow) → SamePlaces rows rows
places_stay rows i row h = (row, h)

-- each place that has a row had one before
pub row_of_mark : (rows : List MessageRow) (i : ℕ) → SamePlaces rows (mark_at rows i)
row_of_mark [] i k row h = (row, h)
row_of_mark (first ∷ rows) zero zero row h = (first, refl)
row_of_mark (first ∷ rows) zero (suc k) row h = (row, h)
row_of_mark (first ∷ rows) (suc i) zero row h = (first, refl)
row_of_mark (first ∷ rows) (suc i) (suc k) row h = row_of_mark rows i k row h

pub row_of_unmark : (rows : List MessageRow) → SamePlaces rows (map unmarked rows)
row_of_unmark [] k row h = (row, h)
row_of_unmark (first ∷ rows) zero row h = (first, refl)
row_of_unmark (first ∷ rows) (suc k) row h = row_of_unmark rows k row h

-- one more row within the limit
pub small_push : (rows : List MessageRow) (row : MessageRow) → All IsSmall rows → row.entry.size ≤ max_size → All IsSmall (rows ++ row ∷ [])
small_push rows row all small = All-push IsSmall rows row all small

-- the rows of messages with their marks
abbrev pub row_with : Message → Bool → MessageRow
row_with message mark = record { entry = listed_message message; marked = mark }

abbrev pub rows_with : List Message → List Bool → List MessageRow
rows_with [] marks = []
rows_with (m ∷ ms) [] = []
rows_with (m ∷ ms) (b ∷ bs) = row_with m b ∷ rows_with ms bs

pub ruleset mark_laws = (places_stay, row_of_mark, row_of_unmark)
