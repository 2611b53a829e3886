-- The way that a look-up goes along a path, as Linux's path_resolution(7) has it, by what was told of the looks.
use Rattle.std.specs.{
  Prelude.{◌≡◌, ◌≢◌, ◌⊎◌, ◌+◌, ℕ, true, false, List, [], ◌∷◌, ◌++◌, Option, None, Some, codes},
  Str.Pattern.{FindsChar, RFindsChar, SplitsAroundMatch},
}
use Rattle.safe_path.specs.{
  Rule.has_links_mode,
  declared.{looks.Looks.Ghosts, rule.Found.Found},
}

-- a path's first name, and what follows the '/' behind it, if there is one
abbrev pub SplitsName : List ℕ → List ℕ → Option (List ℕ) → Type 0
SplitsName path name (Some rest) = SplitsAroundMatch (FindsChar 47) path name rest
SplitsName path name None = FindsChar 47 path None × (name ≡ path)

-- folders are named by their path from the root, whose own is the empty text; this is what a name is called there
abbrev pub joined_path : List ℕ → List ℕ → List ℕ
joined_path folder name = folder ++ (47 ∷ name)

-- the folder above another one: the root is above itself
abbrev pub IsAbove : List ℕ → List ℕ → Type 0
IsAbove folder above = ((name : List ℕ) × SplitsAroundMatch (RFindsChar 47) folder above name)
    ⊎ (RFindsChar 47 folder None × (above ≡ []))

-- the folder that a name of a folder is: '.' and the empty name are the folder itself, '..' is the one above it
abbrev pub IsFolderAt : List ℕ → List ℕ → List ℕ → Type 0
IsFolderAt folder name next =
    (((name ≡ []) ⊎ (name ≡ codes ".")) × (next ≡ folder))
    ⊎ ((name ≡ codes "..") × IsAbove folder next)
    ⊎ ((name ≢ []) × (name ≢ codes ".") × (name ≢ codes "..") × (next ≡ joined_path folder name))

-- what a link's text leaves to be looked up, with what came behind the link
abbrev pub followed : List ℕ → Option (List ℕ) → List ℕ
followed target None = target
followed target (Some rest) = target ++ (47 ∷ rest)

-- a thing that a look-up goes through, and what a look told of it
pub record Passed : Type 0 where
  pub path : List ℕ
  pub found : Found

-- where a look-up is: a folder, what a look told of it, and the names that are left, at least one
pub record Spot : Type 0 where
  pub folder : List ℕ
  pub held : Found
  pub names : List ℕ

-- a look-up of a path from the root came to a spot: how many links it followed, and what it went through, the last
-- first. A link's text is looked up from the folder that the link is in, or, if it begins with '/', from the root
pub data Goes {L : Type 0} (told : Ghosts L) (looks : L) (names : List ℕ) : ℕ → List Passed → Spot → Type 0 where
  begins : (root : Found) → told.showed looks (codes "/") root
      → Goes told looks names 0 (record { path = codes "/"; found = root } ∷ [])
      (record { folder = []; held = root; names = names })
  enters : (links : ℕ) (passed : List Passed) (spot : Spot) (name rest next : List ℕ) (found : Found)
      → Goes told looks names links passed spot
      → SplitsName spot.names name (Some rest) → told.showed looks (joined_path spot.folder name) found
      → has_links_mode found.mode ≡ false → IsFolderAt spot.folder name next
      → Goes told looks names links (record { path = joined_path spot.folder name; found = found } ∷ passed)
      (record { folder = next; held = found; names = rest })
  turns : (links : ℕ) (passed : List Passed) (spot : Spot) (name target : List ℕ) (rest : Option (List ℕ))
      (found : Found)
      → Goes told looks names links passed spot
      → SplitsName spot.names name rest → told.showed looks (joined_path spot.folder name) found
      → has_links_mode found.mode ≡ true → told.led looks (joined_path spot.folder name) target
      → ((from_root : List ℕ) → target ≢ 47 ∷ from_root)
      → Goes told looks names (links + 1) (record { path = joined_path spot.folder name; found = found } ∷ passed)
      (record { folder = spot.folder; held = spot.held; names = followed target rest })
  turns_to_root : (links : ℕ) (passed : List Passed) (spot : Spot) (name target : List ℕ) (rest : Option (List ℕ))
      (found root : Found)
      → Goes told looks names links passed spot
      → SplitsName spot.names name rest → told.showed looks (joined_path spot.folder name) found
      → has_links_mode found.mode ≡ true → told.led looks (joined_path spot.folder name) (47 ∷ target)
      → told.showed looks (codes "/") root
      → Goes told looks names (links + 1) (record { path = codes "/"; found = root }
      ∷ record { path = joined_path spot.folder name; found = found } ∷ passed)
      (record { folder = []; held = root; names = followed target rest })
