-- What a writer that remembers refusals has written.
use Rattle.std.specs.{
  Prelude.{◌≡◌, ◌≢◌, ◌⊎◌, ℕ, List, [], ◌++◌, Option, None, Some},
  Fmt.decimal,
  Io.KnownBytes.Appends,
}
use Rattle.getmail_setup.specs.declared.output.Output.{Output}

-- a front of these octets was written, and nothing else
pub record WritesFront (old new : Option (List ℕ)) (octets : List ℕ) : Type 0 where
  pub front : List ℕ
  pub rest : List ℕ
  pub is : octets ≡ front ++ rest
  pub appends : Appends old new front

-- unless something was refused by now, these octets were written, and nothing else; what is refused may have left a
-- front of them, and after a refusal nothing is written
pub record Puts {W : Type 0} (contents : W → Option (List ℕ)) (old : Output W) (octets : List ℕ)
    (new : Output W) : Type 0 where
  pub whole : new.refusal ≡ None → (old.refusal ≡ None) × Appends (contents old.writer) (contents new.writer) octets
  pub front : WritesFront (contents old.writer) (contents new.writer) octets
  pub stays : old.refusal ≢ None → contents new.writer ≡ contents old.writer

-- a text was written of which this was written before; or only that, since the rest was refused
abbrev pub PutsRest : {W : Type 0} → (W → Option (List ℕ)) → Output W → List ℕ → List ℕ → Output W → Type 0
PutsRest contents start written text new =
    Puts contents start text new ⊎ ((new.refusal ≢ None) × Puts contents start written new)

-- a number, if there is one
abbrev pub number_text : Option ℕ → List ℕ
number_text None = []
number_text (Some number) = decimal number
