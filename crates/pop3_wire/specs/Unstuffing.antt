-- A body that is read octet by octet: the octets that were read, and the part of the text that they give.
use Rattle.std.specs.{Prelude.{◌≡◌, ◌≢◌, ℕ, List, [], ◌∷◌, ◌++◌}, List.{flat_map, AllByRecursion}}
use Rattle.pop3_wire.specs.{
  Line.{IsLine, ended},
  Body.{dot, IsContent, unstuffed, text_of, Body},
  declared.unstuffer.Spot.{Spot, TheVariants.{Start, Dot, DotCr, Middle, Cr, Done}},
  declared.unstuffer.Given.{Given, TheVariants.{Nothing, One, CrAnd}},
}

-- the bytes are whole lines of a body and then a part of one; the text is that of the lines, and then what is
-- shown of the part
pub record Partly (bytes text part shown : List ℕ) : Type 0 where
  pub lines : List (List ℕ)
  pub content : AllByRecursion IsContent lines
  pub line : IsLine part
  pub whole : bytes ≡ flat_map ended lines ++ part
  pub read : text ≡ text_of lines ++ shown

-- the bytes don't end in CR
abbrev pub NoCr : List ℕ → Type 0
NoCr bytes = (front : List ℕ) → bytes ≡ front ++ 13 ∷ [] → ⊥

-- a part of a line that doesn't begin the end mark; all of it is shown
pub record InLine (bytes text : List ℕ) : Type 0 where
  pub part : List ℕ
  pub some : part ≢ []
  pub other : part ≢ dot
  pub no_cr : NoCr part
  pub partly : Partly bytes text part (unstuffed part)

-- a part of a line and a CR that isn't shown yet
pub record AtCr (bytes text : List ℕ) : Type 0 where
  pub part : List ℕ
  pub other : part ≢ dot
  pub partly : Partly bytes text (part ++ 13 ∷ []) (unstuffed part)

-- these bytes lead to this spot, and this much of the text is known
abbrev pub Reaches : Spot → List ℕ → List ℕ → Type 0
Reaches Start bytes text = Partly bytes text [] []
Reaches Dot bytes text = Partly bytes text dot []
Reaches DotCr bytes text = Partly bytes text (46 ∷ 13 ∷ []) []
Reaches Middle bytes text = InLine bytes text
Reaches Cr bytes text = AtCr bytes text
Reaches Done bytes text = Body bytes text

-- how many octets of the text are held back at a spot
abbrev pub held_back : Spot → ℕ
held_back Start = 0
held_back Dot = 0
held_back DotCr = 1
held_back Middle = 0
held_back Cr = 1
held_back Done = 0

abbrev pub bytes_given : Given → List ℕ
bytes_given Nothing = []
bytes_given (One byte) = byte ∷ []
bytes_given (CrAnd byte) = 13 ∷ byte ∷ []
