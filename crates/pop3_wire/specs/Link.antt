-- What is known of a link, and what its calls do to it.
use Rattle.std.specs.Prelude.{◌≡◌, ◌+◌, ◌==◌, ◌||◌, ℕ, Bool, false, List, [], ◌++◌, take, Result, Ok, Err}
use Rattle.mail_terms.specs.FailureCount.{Tallies, is_refused, refuses}

-- what is known of a link: the octets sent, the octets got, whether a `recv` has answered 0, and how many
-- calls were refused
pub record Link : Type 0 where
  pub sent : List ℕ
  pub got : List ℕ
  pub ended : Bool
  pub failures : ℕ

-- a successful call sent all of the bytes, a refused one a prefix of them
abbrev pub Sends : {T E : Type 0} → Link → List ℕ → Result T E → Link → Type 0
Sends old bytes (Ok done) new = new ≡ record old { sent = old.sent ++ bytes }
Sends old bytes (Err down) new = (front rest : List ℕ) × (bytes ≡ front ++ rest)
    × (new ≡ record old { sent = old.sent ++ front; failures = old.failures + 1 })

-- a successful call got what it put in the buffer; 0 says that the link has ended
abbrev pub Receives : {E : Type 0} → Link → Result ℕ E → List ℕ → Link → Type 0
Receives old (Ok n) buf new = new ≡ record old { got = old.got ++ take n buf; ended = old.ended || n == 0 }
Receives old (Err down) buf new = new ≡ record old { failures = old.failures + 1 }

-- the failure count rises by one, up to its greatest value, if the call was refused, and stays otherwise
abbrev pub CountsFailure : {T E : Type 0} → Link → Result T E → Link → Type 0
CountsFailure old result new = Tallies (is_refused result) old.failures new.failures

-- the same for a call that can fail otherwise too; a test says which of its faults are refused calls of the link
abbrev pub CountsRefusal : {T E : Type 0} → (E → Bool) → Link → Result T E → Link → Type 0
CountsRefusal is_refusal old result new = Tallies (refuses is_refusal result) old.failures new.failures

-- what is known of a call if the link is sound after it: it was sound before, the old link leads to the new
-- one, and the call did this
abbrev pub WhereSound : {W : Type 0} → (W → Type 0) → (W → W → Type 0) → W → W → Type 0 → Type 0
WhereSound sound leads_to old new did = sound new → sound old × leads_to old new × did

-- what is known of a link whose history isn't kept: only its failure count
abbrev pub uncharted : ℕ → Link
uncharted failures = record { sent = []; got = []; ended = false; failures = failures }

-- the same link, with another failure count
abbrev pub with_failures : ℕ → Link → Link
with_failures failures link = record link { failures = failures }
