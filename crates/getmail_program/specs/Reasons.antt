-- Why a session was cut: the place of its fault, and what is known of the cause.
use Rattle.std.specs.{
  Prelude.{◌&&◌, ◌||◌, ◌==◌, ℕ, Bool, true, List, [], ◌++◌, codes, length, not, if◌then◌else◌},
  Fmt.decimal,
  String.string_bytes,
}
use Rattle.rc_file.specs.declared.settings.{Dest.{Dest, TheVariants.{Maildir, Mboxrd}}, Settings.Settings}
use Rattle.pop3_wire.specs.declared.note.Asked.TheVariants.{Pass, User}
use Rattle.session_parts.specs.declared.{
  fault.Fault.Fault,
  fault.Fault.TheVariants.{ConnectionEnded, ReadFailed, WriteFailed, ReplyTooLong, BadReply, Refused, BadListing},
  fault.Fault.TheVariants.{ListingsDisagree, TooMany, TextTooLong, StoreRefused, SeenRefused, NoMemory, BadSeen},
  report.Outcome.{Outcome, TheVariants.Cut},
}
use Rattle.trace.specs.{Masking.begins, declared.talk.Said.Said}
use Rattle.getmail_setup.specs.Places.{account_name, is_local}
use Rattle.getmail_program.specs.declared.findings.Findings.{Findings}
use Rattle.session_parts.specs.declared.fault.Why.TheVariants as why

-- the first text, unless it is empty
abbrev pub or_else : List ℕ → List ℕ → List ℕ
or_else first second = if length first == 0 then second else first

-- the part of a conversation that was under way
abbrev pub place_in : Said → List ℕ
place_in said =
    if length said.command.items == 0 then codes "before the greeting"
    else codes "in the reply to " ++ said.command.items

-- how many rows answered UIDL and LIST
abbrev pub rows_text : Said → List ℕ
rows_text said = codes ", UIDL has " ++ (decimal said.uids ++ (codes " rows and LIST " ++ decimal said.sizes))

-- octets came, and no whole line
abbrev pub unread_text : ℕ → List ℕ
unread_text unread =
    if unread == 0 then [] else if unread == 1 then codes ": 1 octet, no line with CR LF"
    else codes ": " ++ (decimal unread ++ codes " octets, no line with CR LF")

-- where a fault is, with what the server said or the system refused, if that was noted: there is a text for each fault
abbrev pub reason_text : Fault → Findings → List ℕ
reason_text ConnectionEnded found = (codes "it ended " ++ place_in found.said) ++ unread_text found.unread
reason_text ReadFailed found =
    or_else found.refused.items (codes "it failed " ++ place_in found.said) ++ unread_text found.unread
reason_text WriteFailed found = or_else found.refused.items (codes "it failed " ++ place_in found.said)
reason_text ReplyTooLong found = codes "2048 octets hold no whole line, " ++ place_in found.said
reason_text BadReply found = codes "the server said: " ++ found.said.answer.items
reason_text (Refused asked) found = codes "the server said: " ++ found.said.answer.items
reason_text BadListing found =
    codes "the reply to " ++ (found.said.command.items ++ (codes " has the row: " ++ found.said.row.items))
reason_text ListingsDisagree found = codes "the answer to STAT is " ++ (found.said.count.items ++ rows_text found.said)
reason_text TooMany found = codes "100000 can be fetched; the answer to "
    ++ (found.said.command.items ++ (codes " is " ++ found.said.answer.items))
reason_text TextTooLong found = codes "268435456 octets hold no whole message, " ++ place_in found.said
reason_text (StoreRefused why.NotMbox) found =
    found.destination.now ++ codes
    ": it isn't empty, and has no `From ` at its front or no empty line at its end"
reason_text (StoreRefused other) found = or_else found.refused.items
    (found.destination.now ++ codes ": the system gave no reason")
reason_text SeenRefused found = or_else found.refused.items
    (found.record.now ++ codes ": the system gave no reason")
reason_text NoMemory found = codes "it ran out " ++ place_in found.said
reason_text (BadSeen line) found = found.record.now ++ codes ": a record has no such line"

-- the line of a reason: the account, and the reason
abbrev pub reason_line : Settings → List ℕ → List ℕ
reason_line settings reason = ((codes "getmail: " ++ (account_name settings ++ codes ": ")) ++ reason) ++ codes "\n"

-- nothing came and nothing was sent, and the server is on this machine
abbrev pub is_by_a_tunnel : Settings → Findings → Bool
is_by_a_tunnel settings found =
    found.unread == 0 && (length found.said.command.items == 0 && is_local (string_bytes settings.server))

-- a tunnel says by itself why it ends a connection at once
abbrev pub tunnel_hint : Settings → Findings → List ℕ
tunnel_hint settings found = if is_by_a_tunnel settings found
    then codes "the tunnel's own log says why: journalctl --user -u getmail-tunnel, or the file that stunnel.conf names"
    else []

-- a server may end the connection at each DELE
abbrev pub ended_hint : Settings → Findings → List ℕ
ended_hint settings found = if begins found.said.command.items (codes "DELE ")
    then codes "if it ends at each DELE, this server deletes nothing: set delete = false, and mail is fetched"
    else tunnel_hint settings found

-- what is missing can be made, unless it is on a disk that isn't there
abbrev pub missing_hint : Dest → List ℕ
missing_hint (Maildir path) = codes
    "is its disk mounted? else mkdir -p makes it: a Maildir is a folder with the folders cur, new and tmp"
missing_hint (Mboxrd path) = codes "is its disk mounted? else touch makes it: an empty file is an mbox file"

-- a record can be moved away, which has its cost
abbrev pub record_hint : Dest → List ℕ
record_hint (Maildir path) = codes
    "a run makes a new one if it is moved away: what the Maildir holds isn't stored again, all else is"
record_hint (Mboxrd path) = codes
    "a run makes a new one if it is moved away: all mail then comes into the mbox file again"

-- rights that are missing can be given
abbrev pub rights_hint : Findings → List ℕ
rights_hint found = if found.is_denied
    then codes "it wants rights to read and write: chmod -R u+rwX gives them, if it is yours" else []

-- an answer with another response code than AUTH says the cause itself (RFC 2449, RFC 3206)
abbrev pub says_cause : List ℕ → Bool
says_cause answer = begins answer (codes "-ERR [") && not (begins answer (codes "-ERR [AUTH]"))

-- an answer says that passwords are taken over TLS alone
abbrev pub wants_tls : List ℕ → Bool
wants_tls answer = begins answer (codes "-ERR [AUTH] Plaintext authentication disallowed")
    || begins answer (codes "-ERR Plaintext authentication disallowed")

abbrev pub plain_hint : Findings → List ℕ
plain_hint found = if wants_tls found.said.answer.items
    then codes "this server takes passwords over TLS alone: use a tunnel, as getmail(1) says under TLS" else []

-- a name or a password that is wrong can be mended
abbrev pub login_hint : Findings → List ℕ
login_hint found = if wants_tls found.said.answer.items then plain_hint found
    else if says_cause found.said.answer.items then []
    else codes "username or password is wrong; in the rc file a comment has a line of its own"

-- what else may help, where there is one remedy
abbrev pub hint_text : Settings → Fault → Findings → List ℕ
hint_text settings ConnectionEnded found = ended_hint settings found
hint_text settings ReadFailed found = ended_hint settings found
hint_text settings BadReply found = if length found.said.command.items == 0
    then codes "no POP3 server answers there: most have port 110" else []
hint_text settings (Refused User) found = plain_hint found
hint_text settings (Refused Pass) found = login_hint found
hint_text settings (StoreRefused why.Missing) found = missing_hint settings.dest
hint_text settings (StoreRefused why.Refused) found = rights_hint found
hint_text settings SeenRefused found = rights_hint found
hint_text settings TextTooLong found = codes "max_message_size passes such a message over"
hint_text settings (BadSeen line) found = record_hint settings.dest
hint_text settings fault found = []

-- a line, if it has words
abbrev pub line_if_any : Settings → List ℕ → List ℕ
line_if_any settings words = if length words == 0 then [] else reason_line settings words

-- the lines after that of a fault: its reason always, and then a hint, if there is one
abbrev pub reasons_of : Settings → Fault → Findings → List ℕ
reasons_of settings fault found = reason_line settings (reason_text fault found) ++ line_if_any settings
    (hint_text settings fault found)

-- what is said of an outcome if reasons are asked for
abbrev pub reasons_said : Settings → Bool → Outcome → Findings → List ℕ
reasons_said settings true (Cut fault) found = reasons_of settings fault found
reasons_said settings asked outcome found = []
