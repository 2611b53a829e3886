-- What a file system in memory does by its folder of files.
use Rattle.std.proofs.{
  Common.{◌≡◌, ℕ, refl, ap, List, [], ◌∷◌, take, length, eqb, inl, inr, map, not, Bool, Option, Some, None, string_bytes},
  lemmas.Bool.cases_Bool,
}
use Rattle.std.specs.{Option.is_some, List.filter, Cmp.Lexicographic.pointwise}
use Rattle.folder_store.specs.{FileFolder.Older, Under.{after, outside}}
use Rattle.test_devices.{specs.MemoryFolder.older_of, proofs.MemoryFiles.Before}

-- the test of a front, as a relation of two texts
pub under_is : (front path : List ℕ) → is_some (after front path) ≡ pointwise eqb front (take (length front) path)
under_is [] path = refl
under_is (x ∷ front) [] = refl
under_is (x ∷ front) (y ∷ path) = elim (cases_Bool (eqb x y)) [
  | inl same ↦ rw same (under_is front path)
  | inr apart ↦ rw apart refl
]

-- the name is in another folder
abbrev pub is_kept : List ℕ → Before → Bool
is_kept front link = not (is_some (after front (string_bytes link.0)))

kept_step : (front : List ℕ) (link : Before) (older : List Before) (name : Option (List ℕ))
    → after front (string_bytes link.0) ≡ name
    → map older_of (filter (is_kept front) older) ≡ outside front (map older_of older)
    → map older_of (filter (is_kept front) (link ∷ older)) ≡ outside front (map older_of (link ∷ older))
kept_step front link older None is rest = rw is (ap (λ (os : List Older). older_of link ∷ os) rest)
kept_step front link older (Some name) is rest = rw is rest

pub outside_names : (front : List ℕ) (older : List Before)
    → map older_of (filter (is_kept front) older) ≡ outside front (map older_of older)
outside_names front [] = refl
outside_names front (link ∷ older) =
    kept_step front link older (after front (string_bytes link.0)) refl (outside_names front older)
