-- The texts of faults and reports.
use Rattle.std.specs.{
  Prelude.{ℕ, List, [], ◌++◌, ◌==◌, flat_map, if◌then◌else◌, codes},
  Fmt.decimal,
  String.string_bytes,
}
use Rattle.rc_file.specs.declared.settings.Settings.{Settings}
use Rattle.pop3_wire.specs.declared.note.Asked.{Asked}
use Rattle.pop3_wire.specs.declared.note.Asked.TheVariants.{Greeting, User, Pass, Stat, Uidl, List as ListAsked, Retr}
use Rattle.pop3_wire.specs.declared.note.Asked.TheVariants.{Dele, Rset, Quit}
use Rattle.session_parts.specs.{
  declared.fault.Why.Why,
  declared.fault.Fault.Fault,
  declared.fault.Fault.TheVariants.{ConnectionEnded, ReadFailed, WriteFailed, ReplyTooLong, BadReply, Refused, TooMany},
  declared.fault.Fault.TheVariants.{BadListing, ListingsDisagree, TextTooLong, StoreRefused, SeenRefused, NoMemory},
  declared.fault.Fault.TheVariants.BadSeen,
  declared.report.{Outcome.{Outcome, TheVariants.{Ended, Cut}}, Report.Report},
  declared.report.ReportLine.{ReportLine, TheVariants.{Delivered, Held, Skipped, Deleted}},
  Fault.number_of,
}
use Rattle.session_parts.specs.declared.fault.Why.TheVariants as why

-- what a refused reply was asked for
abbrev pub asked_text : Asked → List ℕ
asked_text Greeting = codes "greeting"
asked_text User = codes "USER"
asked_text Pass = codes "PASS"
asked_text Stat = codes "STAT"
asked_text Uidl = codes "UIDL"
asked_text ListAsked = codes "LIST"
asked_text (Retr number) = codes "RETR " ++ decimal number
asked_text (Dele number) = codes "DELE " ++ decimal number
asked_text Rset = codes "RSET"
asked_text Quit = codes "QUIT"

abbrev pub why_text : Why → List ℕ
why_text why.Missing = codes "destination missing"
why_text why.Refused = codes "destination refused"
why_text why.NotMbox = codes "destination is no mbox"

abbrev pub fault_text : Fault → List ℕ
fault_text ConnectionEnded = codes "connection ended by the server"
fault_text ReadFailed = codes "reading from the server failed"
fault_text WriteFailed = codes "writing to the server failed"
fault_text ReplyTooLong = codes "reply line too long"
fault_text BadReply = codes "reply not understood"
fault_text (Refused asked) = codes "server refused " ++ asked_text asked
fault_text BadListing = codes "listing not understood"
fault_text ListingsDisagree = codes "listings disagree"
fault_text TooMany = codes "too many messages"
fault_text TextTooLong = codes "message too long"
fault_text (StoreRefused reason) = why_text reason
fault_text SeenRefused = codes "seen file refused"
fault_text NoMemory = codes "out of memory"
fault_text (BadSeen line) = codes "seen file not understood at line " ++ decimal line

-- how a session came out, as a number: 0 if it ended
abbrev pub outcome_number : Outcome → ℕ
outcome_number Ended = 0
outcome_number (Cut fault) = number_of fault

-- whose mail it is: the first line
abbrev pub heading : Settings → List ℕ
heading settings = codes "SimplePOP3Retriever:" ++ (string_bytes settings.username
    ++ (codes "@" ++ (string_bytes settings.server ++ (codes ":" ++ (decimal settings.port ++ codes ":\n")))))

-- what is said of message `number` of `total`
abbrev pub message_text : ℕ → ℕ → List ℕ → List ℕ
message_text total number said = codes "msg " ++
    (decimal number ++ (codes "/" ++ (decimal total ++ (codes " " ++ said))))

-- one line; a message that was passed over has one only with verbose 2
abbrev pub line_text : ℕ → ℕ → ReportLine → List ℕ
line_text verbose total (Delivered number octets) = message_text total number
    (codes "(" ++ (decimal octets ++ codes " bytes) delivered\n"))
line_text verbose total (Held number octets) = message_text total number
    (codes "(" ++ (decimal octets ++ codes " bytes) already held\n"))
line_text verbose total (Skipped number size) =
    if verbose == 2 then message_text total number (codes "(" ++ (decimal size ++ codes " octets) skipped\n")) else []
line_text verbose total (Deleted number) = message_text total number (codes "deleted\n")

-- the last line
abbrev pub summary : Report → List ℕ
summary report = decimal report.retrieved ++
    (codes " messages (" ++ (decimal report.bytes ++ (codes " bytes) retrieved, "
    ++ (decimal report.skipped ++ (codes " skipped, " ++ (decimal report.deleted ++ codes " deleted\n"))))))

-- the report, each line ended by LF; with verbose 0 it is empty
abbrev pub report_text : Report → Settings → List ℕ
report_text report settings =
    if settings.verbose == 0 then []
    else (heading settings ++ flat_map (line_text settings.verbose report.total) report.lines.items) ++ summary report
