-- What single functions of the walk answer.
use Rattle.std.specs.{
  Prelude.{◌≡◌, ◌≢◌, ◌⊎◌, ◌+◌, ◌<◌, ◌≤◌, ℕ, true, List, [], ◌∷◌, Option, None, Some, codes, length, string_bytes},
  declared.io.Error.{Error},
}
use Rattle.safe_path.specs.{
  Check.{BreaksRule, ArrivesAt, IsLinkAt, IsRootsFlaw, GetsTo},
  Rule.flaw_in,
  Way.{Spot, followed},
  declared.{
    looks.Looks.{Ghosts},
    rule.{Found.{Found}, Flaw.{Flaw, TheVariants.{Unseen}}, Kind.{Kind}, Role.TheVariants.{Above}},
    walk.{Place.{Place}, Step.{Step, TheVariants.{Ended, Into, Turn as ByLink}}, Turn.{Turn}},
  },
}

-- where a walk is, with these names left
abbrev pub spot_at : Place → List ℕ → Spot
spot_at place names = record { folder = string_bytes place.folder; held = place.held; names = names }

-- the root, which keeps the rule
abbrev pub IsRoot : {L : Type 0} → Ghosts L → L → Place → Type 0
IsRoot told looks place = (string_bytes place.folder ≡ []) × told.showed looks (codes "/") place.held
    × (flaw_in Above place.held ≡ None)

-- a link at a path was read: where its text is looked up, and what is left to be looked up
abbrev pub TurnsAt : {L : Type 0} → Ghosts L → L → Place → List ℕ → Option (List ℕ) → Turn → Type 0
TurnsAt told looks place link rest turn = (string_bytes turn.link ≡ link) × (target : List ℕ)
    × (string_bytes turn.names ≡ followed target rest)
    × ((told.led looks link target × ((from_root : List ℕ) → target ≢ 47 ∷ from_root) × (turn.place ≡ place))
    ⊎ (told.led looks link (47 ∷ target) × IsRoot told looks turn.place))

-- it couldn't be read, or the root that it leads to breaks the rule
abbrev pub FailsToTurn : {L : Type 0} → Ghosts L → L → List ℕ → List ℕ → Flaw → Type 0
FailsToTurn told looks link path flaw =
    ((path ≡ link) × (error : Error) × told.barred looks link error × (flaw ≡ Unseen error))
    ⊎ ((path ≡ codes "/") × (target : List ℕ) × told.led looks link (47 ∷ target) × IsRootsFlaw told looks flaw)

-- what came of the next name at a spot: nothing is left, or each look-up that reached that spot reaches another one
abbrev pub Takes : {L : Type 0} → Ghosts L → L → Kind → Spot → Step → Type 0
Takes told looks kind spot Ended = ArrivesAt told looks kind spot
Takes told looks kind spot (Into place names) = (length names.now < length spot.names)
    × ((whole : List ℕ) (links : ℕ) → GetsTo told looks whole links spot
    → GetsTo told looks whole links (spot_at place names.now))
Takes told looks kind spot (ByLink turn) = IsLinkAt told looks spot (string_bytes turn.link)
    × ((whole : List ℕ) (links : ℕ) → GetsTo told looks whole links spot
    → GetsTo told looks whole (links + 1) (spot_at turn.place (string_bytes turn.names)))

-- each look-up that reached a spot goes on from there to a last one, at which nothing is left, or to the next link
abbrev pub WalksOn : {L : Type 0} → Ghosts L → L → Kind → Spot → Option Turn → Type 0
WalksOn told looks kind spot None = (whole : List ℕ) (links : ℕ) → GetsTo told looks whole links spot
    → (last : Spot) × GetsTo told looks whole links last × ArrivesAt told looks kind last
WalksOn told looks kind spot (Some turn) = (whole : List ℕ) (links : ℕ) → GetsTo told looks whole links spot
    → (last : Spot) × GetsTo told looks whole links last × IsLinkAt told looks last (string_bytes turn.link)
    × GetsTo told looks whole (links + 1) (spot_at turn.place (string_bytes turn.names))

-- or to one at which the rule is broken
abbrev pub BreaksOn : {L : Type 0} → Ghosts L → L → Kind → Spot → List ℕ → Flaw → Type 0
BreaksOn told looks kind spot path flaw = (whole : List ℕ) (links : ℕ) → GetsTo told looks whole links spot
    → (last : Spot) × GetsTo told looks whole links last × BreaksRule told looks kind last path flaw

-- a look-up from the root came, by so many links at most, to a spot at which nothing is left; or, by that many, to one
-- more link
abbrev pub CameTo : {L : Type 0} → Ghosts L → L → Kind → List ℕ → ℕ → Option Turn → Type 0
CameTo told looks kind whole links None = (fewer : ℕ) × (fewer ≤ links) × (last : Spot)
    × GetsTo told looks whole fewer last × ArrivesAt told looks kind last
CameTo told looks kind whole links (Some turn) = (last : Spot) × GetsTo told looks whole links last
    × IsLinkAt told looks last (string_bytes turn.link)
    × GetsTo told looks whole (links + 1) (spot_at turn.place (string_bytes turn.names))
