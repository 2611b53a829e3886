-- What a server's maildrop holds over time (RFC 1939, sections 4 and 7).
use Rattle.std.specs.{Prelude.{ℕ, not, List, take, bytes_eq}, List.{filter, list_any}}
use Rattle.mail_terms.specs.{UniqueId.IsLegalId, Text.IsWhole}

-- a message: its unique id, its size in octets as a listing gives it, and its text, whose lines end at LF
pub record Message : Type 0 where
  pub uid : List ℕ
  pub size : ℕ
  pub text : List ℕ

-- the id is legal, and the text is whole
pub record IsMessage (message : Message) : Type 0 where
  pub legal : IsLegalId message.uid
  pub whole : IsWhole message.text

-- the maildrop after this many messages have come, without those that are gone
abbrev pub maildrop_of : List Message → ℕ → List (List ℕ) → List Message
maildrop_of all come gone = filter (λ (m : Message). not (list_any (bytes_eq m.uid) gone)) (take come all)
