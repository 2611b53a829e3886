-- The maildrop of a rehearsal.
use Rattle.std.specs.Prelude.{ℕ, List, [], ◌∷◌, ◌++◌, Some, codes}
use Rattle.pop3_wire.specs.World.{Message}
use Rattle.pop3_server.specs.Maildrop.{DropMail}

-- the LF that ends a line of a text
abbrev pub line : List ℕ → List ℕ
line text = text ++ 10 ∷ []

abbrev pub first : Message
first = record { uid = codes "m1"; size = 22; text = line (codes "Subject: one") ++ line [] ++ line (codes ".dot") }

abbrev pub second : Message
second = record {
  uid = codes "m2";
  size = 23;
  text = line (codes "Subject: two") ++ line [] ++ line (codes "a") ++ line (codes "bc");
}

-- two small messages, nothing refused or removed yet
abbrev pub rehearsal : DropMail
rehearsal = record { slots = Some first ∷ Some second ∷ []; failures = 0; removals = 0 }
