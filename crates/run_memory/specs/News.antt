-- What an unattended run tells of what it says, and what is remembered of it.
use Rattle.std.specs.{
  Prelude.{◌≡◌, ◌-◌, ◌*◌, ◌==◌, ◌&&◌, ◌||◌, ℕ, Bool, true, false, not, List, [], ◌∷◌, ◌++◌, Option, Some, None},
  Prelude.{bytes_eq, filter, find, length, min, max, nat_le, nat_lt, option_map, position, remove, set, is_some},
  Prelude.{if◌then◌else◌},
  List.list_any,
  Option.option_map_or,
}
use Rattle.run_memory.specs.{
  declared.{
    line.{KnownFault.KnownFault, SaidNotice.SaidNotice},
    run.{Counts.Counts, LeftMarks.LeftMarks, News.News, Notice.Notice, Run.Run, RunMarks.RunMarks},
    times.{Times.Times, Telling.{Telling, TheVariants.{Nothing}}},
  },
  Memory.{Told, with_fault, with_large, with_notice},
  Times.{begun, day, is_over, telling_of, times_after, week},
}

-- ---- faults

abbrev pub fault_place : List KnownFault → List ℕ → Option ℕ
fault_place faults key = position (λ fault. bytes_eq fault.key key) faults

-- when a fault was seen, if it was
abbrev pub times_in : List KnownFault → List ℕ → Option Times
times_in faults key = option_map (λ fault. fault.times) (find (λ fault. bytes_eq fault.key key) faults)

-- the faults but the first of this key
abbrev pub faults_without : List KnownFault → List ℕ → List KnownFault
faults_without faults key = option_map_or (remove faults) (fault_place faults key) faults

abbrev pub is_silent : Telling → Bool
is_silent Nothing = true
is_silent telling = false

abbrev pub fault_now : List KnownFault → List ℕ → ℕ → KnownFault
fault_now faults key now = record { key = key; times = times_after (times_in faults key) now }

-- a fault that is told comes last; if there are 16, the one that was told longest ago is forgotten
abbrev pub with_seen : List KnownFault → List ℕ → ℕ → List KnownFault
with_seen faults key now =
    if is_silent (telling_of (times_in faults key) now) then
    option_map_or (λ place. set faults place (fault_now faults key now)) (fault_place faults key) faults
    else with_fault (faults_without faults key) (fault_now faults key now)

-- a good run forgets a fault that was told two days ago: it wasn't seen for a day
abbrev pub still_known : ℕ → KnownFault → Bool
still_known now fault = not (is_over (2 * day) fault.times.told now)

abbrev pub faults_after : List KnownFault → Run → ℕ → List KnownFault
faults_after faults run now =
    let seen = option_map_or (λ key. with_seen faults key now) run.fault faults in
    if run.has_ended then filter (still_known now) seen else seen

abbrev pub fault_told : List KnownFault → Run → ℕ → Telling
fault_told faults run now = option_map_or (λ key. telling_of (times_in faults key) now) run.fault Nothing

-- ---- the end of faults

-- runs had failed since then, which was told if no end was told within a day
abbrev pub end_told : RunMarks → Run → ℕ → Option ℕ
end_told marks run now =
    if run.has_ended && (nat_lt 0 marks.failing && is_over day marks.ended now) then Some (min marks.failing now)
    else None

abbrev pub marks_after : RunMarks → Run → ℕ → RunMarks
marks_after marks run now = record {
  ended = if is_some (end_told marks run now) then now else marks.ended;
  failing = if is_some run.fault then begun marks.failing now else
      if is_some (end_told marks run now) then 0 else marks.failing;
  met = if run.has_met then begun marks.met now else 0;
}

-- ---- notices

-- a notice that was told keeps another one from being told: one of something that lasts for a week alone
abbrev pub withholds : Notice → ℕ → SaidNotice → Bool
withholds notice now said = bytes_eq said.key notice.key && not (notice.lasts && is_over week said.told now)

-- a notice is told once; one of something that lasts is told again each week
abbrev pub is_news : List SaidNotice → Notice → ℕ → Bool
is_news notices notice now = not (list_any (withholds notice now) notices)

abbrev pub notices_with : List SaidNotice → Notice → ℕ → List SaidNotice
notices_with notices notice now =
    if is_news notices notice now then
    with_notice (filter (λ said. not (bytes_eq said.key notice.key)) notices) (record { key = notice.key; told = now })
    else notices

abbrev pub notices_after : List SaidNotice → List Notice → ℕ → List SaidNotice
notices_after notices [] now = notices
notices_after notices (notice ∷ more) now = notices_after (notices_with notices notice now) more now

abbrev pub notices_told : List SaidNotice → List Notice → ℕ → List Bool
notices_told notices [] now = []
notices_told notices (notice ∷ more) now =
    is_news notices notice now ∷ notices_told (notices_with notices notice now) more now

-- ---- messages that were left out

abbrev pub has_key : List (List ℕ) → List ℕ → Bool
has_key keys key = list_any (λ known. bytes_eq known key) keys

-- a message that is too large is named once, as long as there is room for it
abbrev pub is_large_news : List (List ℕ) → List ℕ → Bool
is_large_news large key = not (has_key large key) && nat_lt (length large) 1000

abbrev pub large_with : List (List ℕ) → List ℕ → List (List ℕ)
large_with large key = if is_large_news large key then with_large large key else large

abbrev pub large_after : List (List ℕ) → List (List ℕ) → List (List ℕ)
large_after large [] = large
large_after large (key ∷ keys) = large_after (large_with large key) keys

abbrev pub large_told : List (List ℕ) → List (List ℕ) → List Bool
large_told large [] = []
large_told large (key ∷ keys) = is_large_news large key ∷ large_told (large_with large key) keys

-- those that are too large no more, or aren't there, are forgotten
abbrev pub still_large : List (List ℕ) → List (List ℕ) → List (List ℕ)
still_large large keys = filter (has_key keys) large

-- each run of a day left messages out for the limit on their number
abbrev pub limit_told : LeftMarks → Run → ℕ → Option ℕ
limit_told left run now =
    if nat_lt 0 run.counts.past_limit && nat_le day (now - begun left.limited now) then Some (begun left.limited now)
    else None

-- the new number of a run that ended takes the place of the old one; one that was cut may not have come to all
abbrev pub number_after : ℕ → ℕ → Bool → ℕ
number_after old new true = new
number_after old new has_ended = max old new

abbrev pub limited_after : LeftMarks → Run → ℕ → ℕ
limited_after left run now =
    if nat_lt 0 run.counts.past_limit then
    (if is_some (limit_told left run now) then now else begun left.limited now)
    else if run.has_ended then 0 else left.limited

-- how many messages are too large beside those that are remembered
abbrev pub beside : List (List ℕ) → List (List ℕ) → ℕ
beside large keys = length keys - length large

abbrev pub left_after : LeftMarks → Run → ℕ → ℕ → LeftMarks
left_after left run unnamed now = record {
  unnamed = number_after left.unnamed unnamed run.has_ended;
  limited = limited_after left run now;
  repeated = number_after left.repeated run.counts.repeated run.has_ended;
}

abbrev pub more_than : ℕ → ℕ → Option ℕ
more_than old new = if nat_lt old new then Some new else None

-- ---- a whole run

-- the messages that are too large and are remembered after a run; without a listing nothing is known of them
abbrev pub large_now : Told → Run → List (List ℕ)
large_now told run =
    if run.has_listed then large_after (still_large told.large run.large.items) run.large.items else told.large

abbrev pub unnamed_now : Told → Run → ℕ
unnamed_now told run = if run.has_listed then beside (large_now told run) run.large.items else told.left.unnamed

-- what is remembered after a run
abbrev pub told_next : Told → Run → ℕ → Told
told_next told run now = record {
  faults = faults_after told.faults run now;
  left = left_after told.left run (unnamed_now told run) now;
  marks = marks_after told.marks run now;
  notices = notices_after told.notices run.notices.items now;
  large = large_now told run;
}

-- what is written of what a run says, by what earlier ones told
pub record IsNews (told : Told) (run : Run) (now : ℕ) (news : News) : Type 0 where
  pub fault : news.fault ≡ fault_told told.faults run now
  pub notices : news.notices.items ≡ notices_told told.notices run.notices.items now
  pub large : news.large.items ≡ (if run.has_listed then
      large_told (still_large told.large run.large.items) run.large.items else [])
  pub unnamed : news.unnamed ≡ more_than told.left.unnamed (unnamed_now told run)
  pub limited : news.limited ≡ limit_told told.left run now
  pub repeated : news.repeated ≡ more_than told.left.repeated run.counts.repeated
  pub end : news.end ≡ end_told told.marks run now
