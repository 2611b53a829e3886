-- What is kept of a conversation, to tell where it went wrong.
use Rattle.std.specs.{
  Prelude.{◌≡◌, ◌+◌, ◌-◌, ◌^◌, ◌++◌, ℕ, List, [], Option, Some, codes, min, take},
  Str.IsTrimAsciiEnd,
}
use Rattle.pop3_wire.specs.declared.note.Asked.{Asked, TheVariants.{Stat, Uidl}}
use Rattle.system_calls.specs.Line.{IsTraceLine}
use Rattle.trace.specs.{
  Command.most_shown,
  declared.talk.{Said.Said, Spoken.{Spoken, TheVariants.{Command, Answer, Row, End}}},
}

-- nothing was said
pub record IsSilent (said : Said) : Type 0 where
  pub command : said.command.items ≡ []
  pub answer : said.answer.items ≡ []
  pub row : said.row.items ≡ []
  pub count : said.count.items ≡ []
  pub uids : said.uids ≡ 0
  pub sizes : said.sizes ≡ 0

-- octets as a trace shows them
abbrev pub IsText : List ℕ → List ℕ → Type 0
IsText octets text = IsTraceLine [] octets (text ++ codes "\n")

-- the answer to STAT is kept to the end
abbrev pub KeepsCount : Said → Option Asked → Said → Type 0
KeepsCount old (Some Stat) new = new.count.items ≡ new.answer.items
KeepsCount old asked new = new.count ≡ old.count

-- a row is one of UIDL or of LIST
abbrev pub CountsRow : Said → Option Asked → Said → Type 0
CountsRow old (Some Uidl) new = (new.uids ≡ min (old.uids + 1) (2 ^ 32 - 1)) × (new.sizes ≡ old.sizes)
CountsRow old asked new = (new.uids ≡ old.uids) × (new.sizes ≡ min (old.sizes + 1) (2 ^ 32 - 1))

-- a part was kept: a command has no answer and no row yet
abbrev pub KeepsSpoken : Said → Option Asked → Spoken → Said → Type 0
KeepsSpoken old asked (Command command) new =
    (new ≡ record old { command = new.command; answer = new.answer; row = new.row })
    × IsText command.now new.command.items × (new.answer.items ≡ []) × (new.row.items ≡ [])
KeepsSpoken old asked (Answer answer) new = (new ≡ record old { answer = new.answer; count = new.count })
    × IsText (take most_shown answer.octets.items) new.answer.items × KeepsCount old asked new
KeepsSpoken old asked (Row row) new = (new ≡ record old { row = new.row; uids = new.uids; sizes = new.sizes })
    × ((line : List ℕ) × IsTrimAsciiEnd (take most_shown row.octets.items) line × IsText line new.row.items)
    × CountsRow old asked new
KeepsSpoken old asked End new = new ≡ old
