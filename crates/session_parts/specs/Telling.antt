-- The text of a preview.
use Rattle.std.specs.{
  Prelude.{ℕ, ◌+◌, ◌-◌, ◌*◌, ◌/◌, ◌%◌, min, nat_lt, Bool, true, false, List, [], ◌++◌, flat_map, Option, Some, None},
  Prelude.{if◌then◌else◌, codes, ◌==◌},
  List.{count_by, sum_by},
  Fmt.decimal,
}
use Rattle.rc_file.specs.declared.settings.Settings.{Settings}
use Rattle.fetch_rules.specs.{
  Due.seconds_per_day,
  Plan.fetches,
  declared.plans.Skip.{Skip, TheVariants.{Delivered, Obstructed, TooLarge, PastLimit, SameId}},
}
use Rattle.session_parts.specs.{
  declared.{preview.Preview.Preview, message_preview.MessagePreview.MessagePreview, telling.Date.Date},
  Report.most_bytes,
  Text.{heading, message_text},
}

-- ---- dates

-- the days from 1 March of year 0 to a second since 1970, at most to 9999-12-31, which is day 2,932,896 since 1970
abbrev pub days_of : ℕ → ℕ
days_of second = min (second / seconds_per_day) 2932896 + 719468

-- the whole years, each from 1 March, in this many days of a 400-year cycle, by the days without leap days: one less
-- for each 1,460 days, one more for each 36,524, one less for 146,096
abbrev pub years_of : ℕ → ℕ
years_of days = (days + days / 36524 - (days / 1460 + days / 146096)) / 365

-- the day in its year, from 1 March, after this many days of a 400-year cycle
abbrev pub day_within : ℕ → ℕ
day_within days = days + years_of days / 100 - (365 * years_of days + years_of days / 4)

-- the month from March on, of a day in its year: five months have 153 days
abbrev pub month_of : ℕ → ℕ
month_of day = (5 * day + 2) / 153

abbrev pub date_of_days : ℕ → ℕ → Date
date_of_days days day =
    let year = 400 * (days / 146097) + years_of (days % 146097) in
    if nat_lt (month_of day) 10
    then record { year = year; month = month_of day + 3; day = day - (153 * month_of day + 2) / 5 + 1 }
    else record { year = year + 1; month = month_of day - 9; day = day - (153 * month_of day + 2) / 5 + 1 }

-- the date of a second since 1970, in UTC
abbrev pub date_of : ℕ → Date
date_of second = date_of_days (days_of second) (day_within (days_of second % 146097))

-- year, month and day, the last two of two digits
abbrev pub date_digits : Date → List ℕ
date_digits date = decimal date.year ++ (codes "-" ++ (decimal (date.month / 10) ++ (decimal (date.month % 10)
    ++ (codes "-" ++ (decimal (date.day / 10) ++ decimal (date.day % 10))))))

abbrev pub date_text : ℕ → List ℕ
date_text second = date_digits (date_of second)

-- ---- lines

-- why a message is passed over, which the store holds or not
abbrev pub skip_text : Skip → Bool → List ℕ
skip_text Delivered held = if held then codes "held" else codes "delivered before"
skip_text Obstructed held = codes "obstructed"
skip_text TooLarge held = codes "too large"
skip_text PastLimit held = codes "past the limit of this session"
skip_text SameId held = codes "same id as an earlier message"

-- what would be done with a message, or why it would be passed over
abbrev pub fate_text : Option Skip → Bool → Bool → List ℕ
fate_text None false held = codes "would be fetched"
fate_text None true held = codes "would be fetched and deleted"
fate_text (Some skip) true held = codes "would be deleted"
fate_text (Some skip) false held = skip_text skip held

abbrev pub due_text : Option ℕ → List ℕ
due_text None = []
due_text (Some second) = codes ", not due before " ++ date_text second

-- the line of one message
abbrev pub message_preview_text : ℕ → MessagePreview → List ℕ
message_preview_text total told = message_text total told.step.number
    (codes "(" ++ (decimal told.size ++ (codes " octets) "
    ++ (fate_text told.step.skip told.step.delete told.held ++ (due_text told.due ++ codes "\n")))))

abbrev pub fetched_in : List MessagePreview → ℕ
fetched_in message_previews = count_by (λ (told : MessagePreview). fetches told.step) message_previews

abbrev pub deleted_ahead : List MessagePreview → ℕ
deleted_ahead message_previews = count_by (λ (told : MessagePreview). told.step.delete) message_previews

-- the octets that would be fetched, by their listed sizes
abbrev pub octets_ahead : List MessagePreview → ℕ
octets_ahead message_previews =
    sum_by (λ (told : MessagePreview). if fetches told.step then told.size else 0) message_previews

-- a size in a unit with tenths of so many octets: with a digit after the point below ten
abbrev pub size_in : ℕ → List ℕ → ℕ → List ℕ
size_in tenth unit octets = let tenths = octets / tenth in codes " (" ++ (decimal (tenths / 10)
    ++ (if nat_lt tenths 100 then codes "." ++ (decimal (tenths % 10) ++ (unit ++ codes ")")) else unit ++ codes ")"))

-- from a million octets on in megabytes; nothing of no octets
abbrev pub size_text : ℕ → List ℕ
size_text octets = if octets == 0 then [] else if nat_lt octets 1000000 then size_in 100 (codes " kB") octets
    else size_in 100000 (codes " MB") octets

-- the last line
abbrev pub counts_text : ℕ → ℕ → List ℕ → ℕ → List ℕ
counts_text total fetched size deleted = decimal fetched ++ (codes " of " ++ (decimal total
    ++ (codes " messages" ++ (size
    ++ (codes " would be fetched, " ++ (decimal deleted ++ codes " deleted\n"))))))

abbrev pub counts : Preview → List ℕ
counts preview = counts_text preview.total (fetched_in preview.message_previews.items)
    (size_text (most_bytes (octets_ahead preview.message_previews.items)))
    (deleted_ahead preview.message_previews.items)

-- what a run would do, each line ended by LF
abbrev pub preview_text : Preview → Settings → List ℕ
preview_text preview settings =
    (heading settings ++ flat_map (message_preview_text preview.total) preview.message_previews.items) ++ counts preview
