-- What an unattended run writes of what it says.
use Rattle.std.specs.{
  Prelude.{◌≡◌, ◌⊎◌, ◌≤◌, ◌&&◌, ◌||◌, ◌==◌, ℕ, Bool, true, false, not, List, [], ◌∷◌, ◌++◌, Option, None, Some},
  Prelude.{Result, Ok, Err, Vec, bytes_eq, codes, drop, filter},
  Prelude.{find, flat_map, is_some, length, map, max, nat_eq, option_map, take, if◌then◌else◌},
  Fmt.decimal,
  Fs.{IsFile, file_type},
  List.{before_first, starts_with},
  Option.option_map_or,
  Str.{is_utf8, Pattern.{RFindsChar, SplitsAroundMatch}},
  declared.{alloc.AllocError.AllocError, fs.attrs.Metadata.Metadata, io.Error.Error, time.SystemTime.SystemTime},
}
use Rattle.httpdate.specs.{Date.{date_text, unix_secs}, declared.date.HttpDate.HttpDate}
use Rattle.mail_terms.specs.Text.{is_line_feed}
use Rattle.run_memory.specs.{
  Memory.{Told, memory_text},
  News.{IsNews, is_silent, told_next},
  Times.{is_long_held, is_void},
  declared.{
    run.{News.News, Notice.{Notice as NoticeKey}, Run.Run},
    times.{Telling.{Telling, TheVariants.{First, Again, Nothing}}, Times.Times},
  },
}
use Rattle.getmail_setup.specs.{
  Clock.second_of,
  Digest.digest_text,
  Output.Puts,
  declared.{
    journal.{Notes.Notes, Part.Part, Subject.{Subject, TheVariants.{Fault, Notice, Lasting, LeftOut}}},
    listed.Large.Large,
    output.Output.Output,
  },
}
use Rattle.getmail_program.specs.declared.{news.{Decided.Decided, RunSaid.RunSaid}, news_file.Waiting.Waiting}

-- ---- what faults and notices are known by

abbrev pub utf8_in : List ℕ → List ℕ
utf8_in octets = if is_utf8 octets then octets else []

-- the line of a refused RETR or DELE without the number of the message, which changes as mail leaves the server
abbrev pub without_number : List ℕ → List ℕ
without_number line =
    if starts_with nat_eq line (codes "getmail: server refused RETR ")
    || starts_with nat_eq line (codes "getmail: server refused DELE ") then take 29 line else line

-- a fault is known by that line, without the lines of its reason, and by the path that it is about
abbrev pub fault_key : Part → List ℕ
fault_key part =
    digest_text (utf8_in (without_number (before_first is_line_feed part.text.items))) (utf8_in part.place.items)

-- a notice is known by its text
abbrev pub notice_key : Part → List ℕ
notice_key part = digest_text (utf8_in part.text.items) []

-- ---- lines

-- a second since 1970 as a reader knows it: a date or, past the year 9999, its number
abbrev pub IsDate : ℕ → List ℕ → Type 0
IsDate second text = ((date : HttpDate) × (unix_secs date ≡ second) × (text ≡ date_text date))
    ⊎ ((253_402_300_800 ≤ second) × (text ≡ decimal second))

-- an account is named by its name or, if that isn't known, by the rc file's path
abbrev pub name_or : List ℕ → Option (List ℕ) → List ℕ
name_or account path = if length account == 0 then option_map_or (λ octets. octets) path account else account

-- what a journal has is what its run said
abbrev pub IsSaid : Notes → Option (List ℕ) → RunSaid → Type 0
IsSaid notes path said = (said.account.items ≡ name_or notes.account.items path) × (said ≡ record {
  account = said.account;
  parts = notes.parts;
  left = notes.left_out;
  has_ended = notes.has_ended;
  has_met = notes.has_met;
  lacks_memory = notes.lacks_memory;
})

-- a line that names the account
abbrev pub account_line : List ℕ → List ℕ → List ℕ
account_line account words = (((codes "getmail: " ++ account) ++ codes ": ") ++ words) ++ codes "\n"

-- such a line, with a date among its words
pub record IsDatedLine (account : List ℕ) (words : List ℕ → List ℕ) (second : ℕ) (line : List ℕ) : Type 0 where
  pub date : List ℕ
  pub is_date : IsDate second date
  pub is : line ≡ account_line account (words date)

-- since when a fault is seen, and how often
abbrev pub seen_words : ℕ → List ℕ → List ℕ
seen_words runs date = codes "seen since " ++ (date ++ (codes ", in " ++ (decimal runs ++ codes " runs")))

abbrev pub IsSeen : List ℕ → Times → List ℕ → Type 0
IsSeen account times line = IsDatedLine account (seen_words times.runs) times.since line

-- that follows a fault that was told before
abbrev pub IsAgain : List ℕ → Telling → List ℕ → Type 0
IsAgain account First line = line ≡ []
IsAgain account (Again times) line = IsSeen account times line
IsAgain account Nothing line = line ≡ []

-- a message that is over the size limit
abbrev pub too_large_line : List ℕ → ℕ → Large → List ℕ
too_large_line account limit message = account_line account
    (codes "message " ++ (decimal message.number ++ (codes " has " ++ (decimal message.size
    ++ (codes " octets, more than max_message_size " ++ (decimal limit ++ codes ": it stays on the server"))))))

-- how many more are
abbrev pub unnamed_line : List ℕ → Option ℕ → List ℕ
unnamed_line account None = []
unnamed_line account (Some count) = account_line account (
    if count == 1 then codes "1 more message is larger than max_message_size: it stays on the server"
    else decimal count ++ codes " more messages are larger than max_message_size: they stay on the server")

-- so many are left
abbrev pub left_words : ℕ → List ℕ
left_words left = if left == 1 then codes "1 message is left" else decimal left ++ codes " messages are left"

-- each run since then left messages out for the limit on their number, the last one so many
abbrev pub reached_words : ℕ → List ℕ → List ℕ
reached_words left date = codes "each run since " ++ (date ++ (codes " reached max_messages_per_session: "
    ++ left_words left))

abbrev pub IsReached : List ℕ → ℕ → ℕ → List ℕ → Type 0
IsReached account left since line = IsDatedLine account (reached_words left) since line

abbrev pub IsLimited : List ℕ → ℕ → Option ℕ → List ℕ → Type 0
IsLimited account left None line = line ≡ []
IsLimited account left (Some since) line = IsReached account left since line

-- so many messages have a repeated id
abbrev pub repeated_line : List ℕ → Option ℕ → List ℕ
repeated_line account None = []
repeated_line account (Some count) =
    account_line account (codes "left out: " ++ (decimal count ++ codes " with a repeated unique-id"))

-- runs had failed since then that work again
abbrev pub mended_words : List ℕ → List ℕ
mended_words date = codes "works again: runs had failed since " ++ date

abbrev pub IsMended : List ℕ → ℕ → List ℕ → Type 0
IsMended account since line = IsDatedLine account mended_words since line

abbrev pub IsEnd : List ℕ → Option ℕ → List ℕ → Type 0
IsEnd account None line = line ≡ []
IsEnd account (Some since) line = IsMended account since line

-- ---- what a run says, without its words

abbrev pub is_end_of_run : Subject → Bool
is_end_of_run Fault = true
is_end_of_run Notice = false
is_end_of_run Lasting = false
is_end_of_run LeftOut = false

abbrev pub is_lasting : Subject → Bool
is_lasting Fault = false
is_lasting Notice = false
is_lasting Lasting = true
is_lasting LeftOut = false

abbrev pub is_noticed : Subject → Bool
is_noticed Fault = false
is_noticed Notice = true
is_noticed Lasting = true
is_noticed LeftOut = false

abbrev pub is_fault : Part → Bool
is_fault part = is_end_of_run part.subject

abbrev pub lasts : Part → Bool
lasts part = is_lasting part.subject

abbrev pub is_notice : Part → Bool
is_notice part = is_noticed part.subject

abbrev pub notice_of : Part → NoticeKey
notice_of part = record { key = notice_key part; lasts = lasts part }

-- a fault and notices are known by their keys, and messages by theirs; a run that came to its end had a listing
pub record IsRunOf (said : RunSaid) (run : Run) : Type 0 where
  pub fault : run.fault ≡ option_map fault_key (find is_fault said.parts.items)
  pub notices : run.notices.items ≡ map notice_of (filter is_notice said.parts.items)
  pub listed : run.has_listed ≡ (said.left.has_listed || said.has_ended)
  pub large : run.large.items ≡ map (λ message. message.key) said.left.large.items
  pub counts : run.counts ≡ said.left.counts
  pub ended : run.has_ended ≡ said.has_ended
  pub met : run.has_met ≡ said.has_met

-- ---- what is told

abbrev pub first_of : List Bool → Bool
first_of [] = false
first_of (mark ∷ marks) = mark

-- the fault is told or isn't, and each notice by its mark; how many messages were left out isn't
abbrev pub is_part_told : Telling → List Bool → Part → Bool
is_part_told telling marks part = if is_notice part then first_of marks else not (is_silent telling) && is_fault part

abbrev pub marks_behind : List Bool → Part → List Bool
marks_behind marks part = if is_notice part then drop 1 marks else marks

-- a part, and behind a fault what follows it if it was told before
abbrev pub said_text : List ℕ → Part → List ℕ
said_text again part = if is_fault part then part.text.items ++ again else part.text.items

-- what is told is wanted, or else the others
abbrev pub is_wanted : Bool → Bool → Bool
is_wanted wanted is_told = if wanted then is_told else not is_told

-- a part that is chosen
abbrev pub chosen_text : List ℕ → Bool → Part → List ℕ
chosen_text again is_chosen part = if is_chosen then said_text again part else []

-- the parts that are told or, if the others are wanted, those that aren't
abbrev pub parts_text : Bool → List ℕ → Telling → List Bool → List Part → List ℕ
parts_text wanted again telling marks [] = []
parts_text wanted again telling marks (part ∷ parts) =
    chosen_text again (is_wanted wanted (is_part_told telling marks part)) part
    ++ parts_text wanted again telling (marks_behind marks part) parts

-- a message that is named
abbrev pub named_line : List ℕ → ℕ → Bool → Large → List ℕ
named_line account limit is_named message = if is_named then too_large_line account limit message else []

-- the lines of the messages that are named
abbrev pub large_lines : List ℕ → ℕ → List Large → List Bool → List ℕ
large_lines account limit [] marks = []
large_lines account limit (message ∷ large) marks =
    named_line account limit (first_of marks) message ++ large_lines account limit large (drop 1 marks)

-- the parts that are told, the messages that are named, and the lines on others that were left out and on the end of
-- faults
abbrev pub told_text : RunSaid → News → List ℕ → List ℕ → List ℕ → List ℕ
told_text said news again limited end = ((((parts_text true again news.fault news.notices.items said.parts.items
    ++ large_lines said.account.items said.left.limit said.left.large.items news.large.items)
    ++ unnamed_line said.account.items news.unnamed) ++ limited)
    ++ repeated_line said.account.items news.repeated) ++ end

pub record IsNewsText (said : RunSaid) (news : News) (text : List ℕ) : Type 0 where
  pub again : List ℕ
  pub is_again : IsAgain said.account.items news.fault again
  pub limited : List ℕ
  pub is_limited : IsLimited said.account.items said.left.counts.past_limit news.limited limited
  pub end : List ℕ
  pub is_end : IsEnd said.account.items news.end end
  pub is : text ≡ told_text said news again limited end

-- the run says nothing, since another one has the lock
abbrev pub only_met : RunSaid → Bool
only_met said = if said.has_met then length said.parts.items == 0 else false

-- what is told beside that if it can't be kept what was told
abbrev pub rest_text : RunSaid → News → List ℕ
rest_text said news =
    if only_met said then codes "getmail: another getmail is at work for this account\n"
    else parts_text false [] news.fault news.notices.items said.parts.items

-- the octets that are to be kept, if they are others than before
abbrev pub changed_octets : List ℕ → List ℕ → Option (List ℕ)
changed_octets after before = if bytes_eq after before then None else Some after

-- by what earlier runs told, the news of a run, their words, and the octets that are to be kept
pub record Decides (memory : Result Told AllocError) (said : RunSaid) (now : ℕ) (decided : Decided) : Type 0 where
  pub told : Told
  pub known : memory ≡ Ok told
  pub run : Run
  pub is_run : IsRunOf said run
  pub is_news : IsNews told run now decided.news
  pub is_text : IsNewsText said decided.news decided.words.items
  pub changes : option_map (λ octets. octets.items) decided.octets
      ≡ changed_octets (memory_text (told_next told run now)) (memory_text told)

-- ---- what is written

-- that memory ran out for a part, if it did
abbrev pub lack_text : Bool → List ℕ
lack_text lacks = if lacks then codes "getmail: out of memory\n" else []

-- all that a run said
abbrev pub all_text : List Part → List ℕ
all_text parts = flat_map (λ part. part.text.items) parts

-- that each run tells it, if something is told
abbrev pub unkept_line : List ℕ → List ℕ → List ℕ
unkept_line account told = if length told == 0 then []
    else account_line account (codes "each run tells this, since the folder of its record cannot be written")

-- what isn't told yet was written, and that each run does so; or that memory ran out for it
abbrev pub WritesRest : {E : Type 0} → (E → Option (List ℕ)) → RunSaid → Decided → Output E → Output E → Type 0
WritesRest contents said decided old new = (text : List ℕ)
    × ((text ≡ rest_text said decided.news
    ++ unkept_line said.account.items (decided.words.items ++ rest_text said decided.news))
    ⊎ (text ≡ lack_text true)) × Puts contents old text new

-- what is told from now on was kept; or the rest was told too
abbrev pub KeepsOrTells : {E : Type 0} → (E → Option (List ℕ)) → RunSaid → Decided → Bool → Output E → Output E → Type 0
KeepsOrTells contents said decided true old new = new ≡ old
KeepsOrTells contents said decided false old new = WritesRest contents said decided old new

-- octets were kept, unless something couldn't be written: then the next run tells it
abbrev pub KeepsOctets : {E : Type 0} → (E → Option (List ℕ)) → (List ℕ → Bool → Type 0) → RunSaid → Decided → List ℕ
    → Output E → Output E → Type 0
KeepsOctets contents kept said decided octets old new = ((is_some old.refusal ≡ true) × (new ≡ old))
    ⊎ ((is_some old.refusal ≡ false)
    × ((is_kept : Bool) × kept octets is_kept × KeepsOrTells contents said decided is_kept old new))

abbrev pub KeepsNews : {E : Type 0} → (E → Option (List ℕ)) → (List ℕ → Bool → Type 0) → RunSaid → Decided
    → Option (List ℕ) → Output E → Output E → Type 0
KeepsNews contents kept said decided None old new = new ≡ old
KeepsNews contents kept said decided (Some octets) old new = KeepsOctets contents kept said decided octets old new

-- what was decided was written and kept
pub record TellsDecided {E : Type 0} (contents : E → Option (List ℕ)) (kept : List ℕ → Bool → Type 0) (said : RunSaid)
    (decided : Decided) (old new : Output E) : Type 0 where
  pub middle : Output E
  pub puts : Puts contents old (decided.words.items ++ lack_text said.lacks_memory) middle
  pub keeps : KeepsNews contents kept said decided (option_map (λ octets. octets.items) decided.octets) middle new

-- a time as a mark, which is none if it is 0
abbrev pub time_mark : Option SystemTime → ℕ
time_mark time = max (second_of time) 1

-- by what earlier runs told, the news of a run were written and kept; or memory ran out: then that and all that the run
-- said were written
pub record TellsNews {E : Type 0} (contents : E → Option (List ℕ)) (gave : Result Told AllocError → Type 0)
    (kept : List ℕ → Bool → Type 0) (showed : Option SystemTime → Type 0) (said : RunSaid) (old new : Output E)
    : Type 0 where
  pub memory : Result Told AllocError
  pub is_memory : gave memory
  pub time : Option SystemTime
  pub is_time : showed time
  pub tells : ((decided : Decided) × Decides memory said (time_mark time) decided
      × TellsDecided contents kept said decided old new)
      ⊎ Puts contents old (all_text said.parts.items ++ lack_text true) new

-- ---- another run that has the lock

-- since when the lock is met, as earlier runs kept it
abbrev pub met_in : Result Told AllocError → ℕ
met_in (Ok told) = told.marks.met
met_in (Err error) = 0

-- nothing is said of it for an hour since its own mark; or since it was first met, if that counts as none
pub record HasPatience (gave : Result Told AllocError → Type 0) (showed : Option SystemTime → Type 0) (held : ℕ)
    (waiting : Waiting) : Type 0 where
  pub time : Option SystemTime
  pub is_time : showed time
  pub unmarked : waiting.has_met ≡ is_void held (second_of time)
  pub met : ℕ
  pub is_met : waiting.has_met ≡ true → (memory : Result Told AllocError) × gave memory × (met ≡ met_in memory)
  pub waits : waiting.is_patient ≡ not (is_long_held held met (second_of time))

-- an unattended run leaves the account to another one as long as it is patient, and any other run doesn't
abbrev pub LeavesToOther : (Result Told AllocError → Type 0) → (Option SystemTime → Type 0) → ℕ → Bool → Bool → Type 0
LeavesToOther gave showed held false leaves = leaves ≡ false
LeavesToOther gave showed held true leaves =
    (waiting : Waiting) × HasPatience gave showed held waiting × (leaves ≡ waiting.is_patient)

-- ---- the file that keeps what was told

-- the path of a file of the same name in the folder that a system gives a user
abbrev pub IsSparePath : ℕ → List ℕ → List ℕ → Type 0
IsSparePath user path spare = (folder name : List ℕ) × SplitsAroundMatch (RFindsChar 47) path folder name
    × (spare ≡ codes "/run/user/" ++ (decimal user ++ (codes "/getmail-" ++ name)))

-- what was found at its path is read if it is a file, which gave these octets or refused them
abbrev pub ReadsFound : {Z : Type 0} → (List ℕ → Type 0) → Type 0 → Result Metadata Error
    → Result (Option (Vec ℕ Z)) Error → Type 0
ReadsFound gave refused (Ok found) (Ok None) = IsFile (file_type found) → ⊥
ReadsFound gave refused (Ok found) (Ok (Some octets)) = IsFile (file_type found) × gave octets.items
ReadsFound gave refused (Ok found) (Err error) = IsFile (file_type found) × refused
ReadsFound gave refused (Err denied) result = result ≡ Err denied
