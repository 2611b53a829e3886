-- The beginning of a session: logging in, and what is there.
use Rattle.std.specs.Prelude.{◌≡◌, ◌⊎◌, ℕ, List, [], ◌∷◌, ◌++◌, Result, Ok, Err}
use Rattle.pop3_wire.specs.{Place.Place, Reading.{WholeReply, HasListing, IsUidLine, IsScanLine, GivesCount}}
use Rattle.mail_terms.specs.{Listing.{Item, Agree, Joins, UidRow}, declared.listing.ScanRow.ScanRow}
use Rattle.pop3_client.specs.{
  declared.fault.ClientFault.{ClientFault, TheVariants.{ListingsDisagree, NoMemory}},
  Turns.{Turn, stat, uidl, list},
  Conversation.{Talked, Stopped, login},
}

-- the turns of the beginning
abbrev pub opening : List ℕ → List ℕ → List Turn
opening name password = login name password ++ (stat ∷ uidl ∷ list ∷ [])

-- all of it was talked, and the replies give this count and these rows
pub record SessionOpened (name password : List ℕ) (old new : Place) (count : ℕ) (uids : List UidRow)
    (sizes : List ScanRow) : Type 0 where
  pub welcome : List WholeReply
  pub counted : WholeReply
  pub named : WholeReply
  pub sized : WholeReply
  pub talked : Talked (opening name password) (welcome ++ counted ∷ named ∷ sized ∷ []) old new
  pub gives : GivesCount counted count
  pub names : HasListing IsUidLine named uids
  pub octets : HasListing IsScanLine sized sizes

-- the listing is the rows, joined with the count; or the conversation stopped; or the rows don't join; or memory ran
-- out joining them
abbrev pub Enters : List ℕ → List ℕ → Place → Result (List Item) ClientFault → Place → Type 0
Enters name password old (Ok items) new = (count : ℕ) × (uids : List UidRow) × (sizes : List ScanRow)
    × SessionOpened name password old new count uids sizes × Joins count uids sizes items
Enters name password old (Err fault) new = Stopped (opening name password) old new fault
    ⊎ (((fault ≡ ListingsDisagree) × ((count : ℕ) × (uids : List UidRow) × (sizes : List ScanRow)
    × SessionOpened name password old new count uids sizes × (Agree count uids sizes → ⊥)))
    ⊎ ((fault ≡ NoMemory) × ((count : ℕ) × (uids : List UidRow) × (sizes : List ScanRow)
    × SessionOpened name password old new count uids sizes)))
