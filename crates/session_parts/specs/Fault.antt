-- A session's fault, and how a session is cut.
use Rattle.std.specs.Prelude.{◌≡◌, ℕ, Option}
use Rattle.pop3_wire.specs.{Bodies.Rest, Place.Place}
use Rattle.pop3_client.specs.{Conversation.Broke, Turns.Turn, declared.fault.ClientFault.ClientFault}
use Rattle.session_parts.specs.declared.fault.{
  Fault.Fault,
  Fault.TheVariants.{ConnectionEnded, ReadFailed, WriteFailed, ReplyTooLong, BadReply, Refused, BadListing, TooMany},
  Fault.TheVariants.{ListingsDisagree, TextTooLong, StoreRefused, SeenRefused, NoMemory, BadSeen},
  Cut.Cut,
}
use Rattle.pop3_client.specs.declared.fault.ClientFault.TheVariants as talk

-- the number that is shown for a fault
abbrev pub number_of : Fault → ℕ
number_of ConnectionEnded = 1
number_of ReadFailed = 2
number_of WriteFailed = 3
number_of ReplyTooLong = 4
number_of BadReply = 5
number_of (Refused asked) = 6
number_of BadListing = 7
number_of ListingsDisagree = 8
number_of TooMany = 9
number_of TextTooLong = 10
number_of (StoreRefused why) = 11
number_of SeenRefused = 12
number_of NoMemory = 13
number_of (BadSeen line) = 14

-- the session's fault if this went wrong in its conversation
abbrev pub fault_of : ClientFault → Fault
fault_of talk.ConnectionEnded = ConnectionEnded
fault_of talk.ReadFailed = ReadFailed
fault_of talk.WriteFailed = WriteFailed
fault_of talk.ReplyTooLong = ReplyTooLong
fault_of talk.BadReply = BadReply
fault_of (talk.Refused asked) = Refused asked
fault_of talk.BadListing = BadListing
fault_of talk.ListingsDisagree = ListingsDisagree
fault_of talk.TooMany = TooMany
fault_of talk.TextTooLong = TextTooLong
fault_of talk.NoMemory = NoMemory

-- a turn broke, and this is the session's fault
abbrev pub Breaks : Turn → Place → Place → Fault → Type 0
Breaks turn old new fault = (why : ClientFault) × (fault ≡ fault_of why) × Broke turn old new why

-- a session cut for this reason, with this reply under way, if one is
abbrev pub cut_of : Fault → Option Rest → Cut
cut_of fault rest = record { fault = fault; rest = rest }
