-- Which names of a folder are wanted.
use Rattle.std.specs.{
  Prelude.{◌≡◌, ◌==◌, ◌||◌, ◌&&◌, ℕ, Bool, true, not, List, [], ◌∷◌, ◌++◌, bytes_eq, codes, length},
  Borrow.Bor,
  Cmp.Lexicographic.slice_cmp,
  List.{All, AllPass, Sorted.IsSorted, flat_map, list_any, starts_with},
  Ordering.nat_cmp,
  Str.is_utf8,
}
use Rattle.mail_terms.specs.UniqueId.{IsLegalId}
use Rattle.mail_store.specs.{FileName.{stem, stem_of}, Held.{asks, is_sought}, Loss.is_among}
use Rattle.folder_store.specs.declared.wanted.{
  Keys.{Keys, TheVariants.{Any, Ids, Texts}},
  Wanted.{Wanted, TheVariants.{All as Each, Items, Stems}},
}

-- whether a name is wanted
abbrev pub is_sought_by : Wanted → List ℕ → Bool
is_sought_by Each name = true
is_sought_by (Items asked) name = is_sought (asks asked) name
is_sought_by (Stems stems) name = is_among stems.now (stem name)

-- whether mail readers don't look at a name: it is empty, or begins with a full stop
abbrev pub is_hidden_name : List ℕ → Bool
is_hidden_name name = length name == 0 || starts_with (λ a b. a == b) name (codes ".")

-- a listing tells a name if readers look at it, it is UTF-8, and it is wanted
abbrev pub is_listed : Wanted → List ℕ → Bool
is_listed wanted name = not (is_hidden_name name) && is_utf8 name && is_sought_by wanted name

-- a name, as the system tells it: a NUL ends it
abbrev pub name_ended : List ℕ → List ℕ
name_ended name = name ++ 0 ∷ []

-- an octet that a name may have
abbrev pub fits_name : ℕ → Bool
fits_name octet = not (octet == 0)

-- the system told these names
pub record TellsNames (octets : List ℕ) (names : List (List ℕ)) : Type 0 where
  pub whole : octets ≡ flat_map name_ended names
  pub without_nul : All (AllPass fits_name) names

-- a text is one of these
abbrev pub has_octets : List (Bor (List ℕ)) → List ℕ → Bool
has_octets texts text = list_any (λ other. bytes_eq text other.now) texts

-- whether the stem of an account's file that holds one of these ids is this text
abbrev pub has_stem_of : List ℕ → List (Bor (List ℕ)) → List ℕ → Bool
has_stem_of account ids text = list_any (λ id. bytes_eq (stem_of account id.now) text) ids

-- whether a name has one of these keys
abbrev pub keys_have : Keys → List ℕ → Bool
keys_have Any name = true
keys_have (Ids account ids) name = has_stem_of account.now ids.items (stem name)
keys_have (Texts stems) name = has_octets stems.items (stem name)

-- texts in order, as a sort leaves them
abbrev pub AreSorted : List (Bor (List ℕ)) → Type 0
AreSorted texts = IsSorted (λ a b. slice_cmp nat_cmp a.now b.now) texts

abbrev pub AreLegal : List (Bor (List ℕ)) → Type 0
AreLegal ids = All (λ id. IsLegalId id.now) ids

-- the ids among some keys, and the stems
abbrev pub ids_of_keys : Keys → List (Bor (List ℕ))
ids_of_keys (Ids account ids) = ids.items
ids_of_keys _ = []

abbrev pub stems_of_keys : Keys → List (Bor (List ℕ))
stems_of_keys (Texts stems) = stems.items
stems_of_keys _ = []

-- the keys are in order, and the ids legal
pub record AreSearchable (keys : Keys) : Type 0 where
  pub legal : AreLegal (ids_of_keys keys)
  pub ids : AreSorted (ids_of_keys keys)
  pub stems : AreSorted (stems_of_keys keys)

-- these keys are those of the names that are wanted
pub record AreKeysOf (wanted : Wanted) (keys : Keys) : Type 0 where
  pub have : (name : List ℕ) → keys_have keys name ≡ is_sought_by wanted name
  pub searchable : AreSearchable keys
