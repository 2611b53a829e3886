-- A client of a link: where it is, and what is known of its calls.
use Rattle.std.specs.Prelude.{◌≡◌, Result}
use Rattle.pop3_wire.specs.{declared.wire.Wire.Ghosts, Link.{Link, CountsRefusal, WhereSound}, Place.{Place, at}}
use Rattle.pop3_client.specs.{
  declared.{client.Client.Client, fault.ClientFault.ClientFault},
  Conversation.is_link_refusal,
}

-- the link, and the octets of it that wait to be used
abbrev pub place_of : {W : Type 0} → Ghosts W → Client W → Place
place_of link client = at (link.history client.wire.now) client.reader

-- what is known of its link
abbrev pub link_of : {W : Type 0} → Ghosts W → Client W → Link
link_of link client = link.history client.wire.now

-- it is still the client of the same link
abbrev pub HasSameLink : {W : Type 0} → Client W → Client W → Type 0
HasSameLink old new = new.wire.ghost_name ≡ old.wire.ghost_name

-- the failure count of its link rises by one, up to its greatest value, if a call was refused, and stays otherwise
abbrev pub CountsRefusals : {W T : Type 0} → Ghosts W → Client W → Result T ClientFault → Client W → Type 0
CountsRefusals link old result new = CountsRefusal is_link_refusal (link.history old.wire.now) result
    (link.history new.wire.now)

-- what is known of a call if the link is sound after it: it was sound before, the old link leads to the new
-- one, and the call did this between the two places
abbrev pub WhereLinkSound : {W : Type 0} → Ghosts W → Client W → Client W → (Place → Place → Type 0) → Type 0
WhereLinkSound link old new did =
    WhereSound link.sound link.leads_to old.wire.now new.wire.now (did (place_of link old) (place_of link new))
