-- What the line of progress says, and when it is shown.
use Rattle.std.specs.{
  Prelude.{◌≡◌, ◌⊎◌, ◌+◌, ◌-◌, ◌/◌, ◌%◌, ◌^◌, ◌==◌, ◌&&◌, ◌||◌, ℕ, Bool, false, true, List, [], ◌∷◌, ◌++◌, codes},
  Prelude.{Err, None, Ok, Option, Some, Result, length, min, nat_le, nat_lt, slice_get, unwrap_or},
  Prelude.if◌then◌else◌,
  Fmt.decimal,
}
use Rattle.rc_file.specs.declared.settings.Settings.{Settings}
use Rattle.pop3_wire.specs.{
  Fields.number_and_size,
  declared.fault.WireFault.WireFault,
  declared.note.Asked.{Asked, TheVariants.{Stat, Uidl, List as ListAsked, Retr}},
  declared.note.Note.{Note, TheVariants.{Command, Count, Body}},
}
use Rattle.getmail_setup.specs.{
  Listed.without_end,
  Output.WritesFront,
  declared.{errors.Errors.Errors, progress.Progress.Progress, shown_wire.ShownWire.ShownWire},
}

-- a number of tenths: with a digit after the point below ten
abbrev pub in_tenths : ℕ → List ℕ
in_tenths tenths = if nat_lt tenths 100 then decimal (tenths / 10) ++ (codes "." ++ decimal (tenths % 10))
    else decimal (tenths / 10)

-- how much of a size has come, in a unit with tenths of so many octets
abbrev pub part_in : ℕ → List ℕ → ℕ → ℕ → List ℕ
part_in tenth unit octets size =
    codes ", " ++ (in_tenths (min octets size / tenth) ++ (codes " of " ++ (in_tenths (size / tenth) ++ unit)))

-- how much of a size has come, if that is known: from a million octets on in megabytes
abbrev pub part_text : ℕ → ℕ → List ℕ
part_text octets size =
    if size == 0 then [] else if nat_lt size 1000000 then part_in 100 (codes " kB") octets size
    else part_in 100000 (codes " MB") octets size

-- of a message its number and how much of it has come; else how many messages both listings had rows for
abbrev pub text_for : Option Asked → Progress → List ℕ
text_for (Some (Retr number)) p =
    codes "message " ++ (decimal number ++ (codes " of " ++ (decimal p.total ++ part_text p.octets p.size)))
text_for asked p = codes "listed " ++ (decimal (p.rows / 2) ++ (codes " of " ++ (decimal p.total ++ codes " messages")))

abbrev pub progress_text : Progress → List ℕ
progress_text p = text_for p.asked p

-- nothing is known of a fetch
pub record KnowsNothing (p : Progress) : Type 0 where
  pub total : p.total ≡ 0
  pub rows : p.rows ≡ 0
  pub sizes : p.sizes.items ≡ []
  pub size : p.size ≡ 0
  pub octets : p.octets ≡ 0
  pub due : p.due ≡ 0
  pub asked : p.asked ≡ None

-- the size in a row of LIST, if that is the next one after so many
abbrev pub size_after : ℕ → Result (ℕ × ℕ) WireFault → Option ℕ
size_after known (Ok (number, size)) = if known + 1 == number then Some size else None
size_after known (Err fault) = None

abbrev pub next_size : ℕ → List ℕ → Option ℕ
next_size known row = size_after known (number_and_size (without_end row))

-- that size was added, if there was memory for it
abbrev pub HasAdded : Option ℕ → Progress → Progress → Type 0
HasAdded None old new = new ≡ old
HasAdded (Some size) old new = (new ≡ record old { sizes = new.sizes })
    × ((new.sizes.items ≡ old.sizes.items ++ (size ∷ [])) ⊎ (new.sizes.items ≡ old.sizes.items))

abbrev pub HasNextSize : Progress → List ℕ → Progress → Type 0
HasNextSize old row new = HasAdded (next_size (length old.sizes.items) row) old new

-- the size of the message that is asked for; 0 if it isn't known
abbrev pub size_for : List ℕ → Option Asked → ℕ
size_for sizes (Some (Retr number)) =
    if nat_lt 0 number then unwrap_or (slice_get sizes (number - 1)) 0 else 0
size_for sizes asked = 0

abbrev pub with_octets : Progress → ℕ → Progress
with_octets p octets = record p { octets = min (p.octets + octets) (2 ^ 64 - 1) }

abbrev pub with_row : Progress → Progress
with_row p = record p { rows = min (p.rows + 1) (2 ^ 32 - 1) }

-- a part of a body came, which is a row if a listing was asked for
abbrev pub HasTaken : Progress → Option Asked → List ℕ → ℕ → Progress → Type 0
HasTaken old (Some Uidl) text octets new = new ≡ with_row (with_octets old octets)
HasTaken old (Some ListAsked) text octets new = HasNextSize (with_row (with_octets old octets)) text new
HasTaken old asked text octets new = new ≡ with_octets old octets

-- a part of a conversation was noted
abbrev pub NotesProgress : Progress → Note → Progress → Type 0
NotesProgress old (Command asked line) new =
    new ≡ record old { size = size_for old.sizes.items asked; asked = asked; octets = 0; due = 0 }
NotesProgress old (Count total) new = new ≡ record old { total = total }
NotesProgress old (Body text octets ended) new = HasTaken old old.asked text.now octets new
NotesProgress old part new = new ≡ old

-- of a thousand messages and more each thousand rows are shown
abbrev pub is_due_row : Progress → Bool
is_due_row p = nat_le 1000 p.total && p.rows % 1000 == 0

abbrev pub is_due_line : Progress → Option Asked → Bool
is_due_line p (Some Stat) = is_due_row p
is_due_line p (Some Uidl) = is_due_row p
is_due_line p (Some ListAsked) = is_due_row p
is_due_line p (Some (Retr number)) = nat_le p.due p.octets
is_due_line p asked = false

-- of a message each 65,536 octets are
abbrev pub due_after : Progress → Option Asked → ℕ
due_after p (Some (Retr number)) = if nat_le p.due p.octets then min (p.octets + 65536) (2 ^ 64 - 1) else p.due
due_after p asked = p.due

-- a line that is written over the last one: ESC [ ? 7 l has the terminal wrap no line, ESC [ K erases what follows the
-- text, and ESC [ ? 7 h has it wrap lines again
abbrev pub line_over : List ℕ → List ℕ
line_over text = (13 ∷ 27 ∷ codes "[?7l") ++ (text ++ (27 ∷ (codes "[K" ++ (27 ∷ codes "[?7h"))))

-- what erases a line
abbrev pub erased : List ℕ
erased = 13 ∷ 27 ∷ codes "[K"

-- a line was written, or a front of it, since the rest was refused or memory ran out; or nothing was, as it isn't due
abbrev pub WritesIf : Bool → Option (List ℕ) → Option (List ℕ) → List ℕ → Type 0
WritesIf false old new line = new ≡ old
WritesIf true old new line = WritesFront old new line

-- a part was noted, and if the line is due then, it was written
pub record ShowsNote {S : Type 0} (contents : S → Option (List ℕ)) (old : Progress) (part : Note) (screen : S)
    (new : Progress) (due : Bool) (screen' : S) : Type 0 where
  pub noted : Progress
  pub notes : NotesProgress old part noted
  pub due_is : due ≡ is_due_line noted noted.asked
  pub next : new ≡ record noted { due = due_after noted noted.asked }
  pub writes : WritesIf due (contents screen) (contents screen') (line_over (progress_text new))

-- a part was noted where a line is shown, if there is a place for it
abbrev pub ShowsDue : {W S : Type 0} → (S → Option (List ℕ)) → Option S → ShownWire W S → Note → ShownWire W S
    → Type 0
ShowsDue contents None old part new = new ≡ old
ShowsDue {W} {S} contents (Some screen) old part new = (screen' : S) × (due : Bool)
    × ShowsNote contents old.progress part screen new.progress due screen'
    × (new.screen ≡ Some screen') × (new.is_shown ≡ (due || old.is_shown))

-- the line was wiped, if one was shown
abbrev pub Wipes : {S : Type 0} → (S → Option (List ℕ)) → Option S → Bool → Option S → Bool → Type 0
Wipes contents None was screen' is = (screen' ≡ None) × (is ≡ was)
Wipes {S} contents (Some screen) was screen' is = (is ≡ false) × ((left : S) × (screen' ≡ Some left)
    × WritesIf was (contents screen) (contents left) erased)

-- a link shows here how far a fetch is of which nothing is known yet
pub record IsShownOn {W S : Type 0} (screen : Option S) (wire : W) (shown : ShownWire W S) : Type 0 where
  pub inner : shown.wire ≡ wire
  pub place : shown.screen ≡ screen
  pub progress : KnowsNothing shown.progress
  pub unwritten : shown.is_shown ≡ false
  pub none : shown.unread ≡ 0

-- where the line is shown, if it is and a report is wanted
abbrev pub screen_for : {E : Type 0} → Errors E → Settings → Option E
screen_for errors settings =
    if errors.shows_progress && nat_lt 0 settings.verbose then Some errors.err.writer else None
