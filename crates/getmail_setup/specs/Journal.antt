-- What an unattended run keeps of what it says.
use Rattle.std.specs.{
  Prelude.{◌≡◌, ◌≢◌, ◌⊎◌, ◌==◌, ◌++◌, ℕ, Bool, false, true, List, [], ◌∷◌, Option, None, Some, vec_len},
  Str.Pattern.{FindsText, SplitsAroundMatch},
  String.string_bytes,
}
use Rattle.fetch_rules.specs.declared.plans.{Skip.{Skip, TheVariants.TooLarge}, Step.Step}
use Rattle.getmail_setup.specs.{
  Listed.AreLarge,
  declared.journal.{LeftOut.LeftOut, Notes.Notes, Part.Part, Subject.Subject},
  declared.listed.Listed.Listed,
}

-- nothing was left out
pub record IsNoneLeft (left : LeftOut) : Type 0 where
  pub has_listed : left.has_listed ≡ false
  pub large : left.large.items ≡ []
  pub limit : left.limit ≡ 0
  pub past_limit : left.counts.past_limit ≡ 0
  pub repeated : left.counts.repeated ≡ 0

-- nothing was said
pub record IsEmpty (notes : Notes) : Type 0 where
  pub begun : notes.begun.items ≡ []
  pub place : notes.place.items ≡ []
  pub mark : string_bytes notes.mark ≡ []
  pub account : notes.account.items ≡ []
  pub parts : notes.parts.items ≡ []
  pub too_large : notes.too_large ≡ None
  pub left_out : IsNoneLeft notes.left_out
  pub has_ended : notes.has_ended ≡ false
  pub has_met : notes.has_met ≡ false
  pub lacks_memory : notes.lacks_memory ≡ false

-- the number of a message that is over the size limit and that the run doesn't delete
abbrev pub number_for : Option Skip → Bool → ℕ → Option ℕ
number_for (Some TooLarge) false number = Some number
number_for skip delete number = None

abbrev pub too_large : Step → Option ℕ
too_large step = number_for step.skip step.delete step.number

-- the front of a path up to where a mark first stands in it, if one is known and does
abbrev pub IsUnmarked : List ℕ → List ℕ → List ℕ → Type 0
IsUnmarked path mark front = ((mark ≡ []) × (front ≡ path))
    ⊎ ((mark ≢ []) × ((FindsText mark path None × (front ≡ path))
    ⊎ ((rest : List ℕ) × SplitsAroundMatch (FindsText mark) path front rest)))

-- a part was kept, or there was no memory for it
abbrev pub HasKept : Notes → Part → Notes → Type 0
HasKept old part new =
    ((new.parts.items ≡ old.parts.items ++ (part ∷ [])) × (new.lacks_memory ≡ old.lacks_memory))
    ⊎ ((new.parts.items ≡ old.parts.items) × (new.lacks_memory ≡ true))

-- what was said since the last part is one, with the path that it is about, unless nothing was
abbrev pub HasClosedAs : Bool → Notes → Subject → Notes → Type 0
HasClosedAs true old subject new = (new.parts ≡ old.parts) × (new.lacks_memory ≡ old.lacks_memory)
HasClosedAs false old subject new =
    HasKept old (record { subject = subject; text = old.begun; place = old.place }) new

abbrev pub HasClosed : Notes → Subject → Notes → Type 0
HasClosed old subject new = HasClosedAs (vec_len old.begun == 0) old subject new

-- a run left out these messages of its listing, if their numbers are known: with no rows none is named, and without
-- memory it counts as one without a listing
abbrev pub HasLeftOut : Option (List ℕ) → Option Listed → LeftOut → Type 0
HasLeftOut None listed left = (left.has_listed ≡ false) × (left.large.items ≡ [])
HasLeftOut (Some numbers) None left = (left.has_listed ≡ true) × (left.large.items ≡ [])
HasLeftOut (Some numbers) (Some listed) left = ((left.has_listed ≡ false) × (left.large.items ≡ []))
    ⊎ ((left.has_listed ≡ true) × AreLarge listed numbers left.large.items)
