-- What is said of refused paths; and how a look-up goes on.
use Rattle.std.proofs.{
  Common.{◌≡◌, ◌<◌, ◌≤◌, ◌+◌, ◌∷◌, ◌∙◌, ℕ, List, [], ap, arith, codes, false, inl, inr, length, refl, subst, sym, true},
  lemmas.List.Elements.{All-cons},
}
use Rattle.std.specs.Prelude.{◌==◌, Bool, Option, None, Some, if◌then◌else◌, not, string_bytes}
use Rattle.std.specs.declared.io.Error.{Error}
use Rattle.safe_path.specs.{
  Check.{AreNames, BreaksRule, KeepsRule, IsRefused, IsSafePath, GetsTo, WhereUnsafe, most_links, role_of},
  Check.BreaksRule.{at_root, unread},
  Rule.{flaw_in, has_links_mode},
  Walk.{BreaksOn, CameTo, FailsToTurn, WalksOn, IsRoot, TurnsAt, spot_at},
  Way.{IsFolderAt, Passed, Spot, SplitsName, followed, joined_path},
  Way.Goes.{begins, enters, turns, turns_to_root},
  declared.{
    looks.Looks.{Ghosts},
    refused.PathRefused.{PathRefused, TheVariants.{NoMemory, Unsafe}},
    rule.{Found.{Found}, Flaw.{Flaw, TheVariants.{OtherOwner, Unseen}}, Kind.{Kind, TheVariants.{Folder}}},
    rule.Named.{Named},
    rule.Role.{Role, TheVariants.{Above, Link}},
    walk.{Place.{Place}, Turn.{Turn}},
  },
}

pub where_unsafe : (P Q : List ℕ → Flaw → Type 0) (why : PathRefused) → ((path : List ℕ) (flaw : Flaw) → P path flaw → Q path flaw)
    → WhereUnsafe P why → WhereUnsafe Q why
where_unsafe P Q (Unsafe why) f p = f (string_bytes why.path) why.flaw p
where_unsafe P Q NoMemory f p = tt

-- of a thing that breaks the rule
pub where_held : (at path : List ℕ) (role : Role) (found : Found) (Q : List ℕ → Flaw → Type 0) (why : PathRefused) → path ≡ at
    → ((flaw : Flaw) → flaw_in role found ≡ Some flaw → Q at flaw)
    → WhereUnsafe (λ at flaw. (at ≡ path) × (flaw_in role found ≡ Some flaw)) why → WhereUnsafe Q why
where_held at path role found Q (Unsafe why) same f p = subst (λ at. Q at why.flaw) (sym (p.0 ∙ same)) (f why.flaw p.1)
where_held at path role found Q NoMemory same f p = tt

-- of one that can't be looked at
pub where_unseen : (at path : List ℕ) (error : Error) (Q : List ℕ → Flaw → Type 0) (why : PathRefused) → path ≡ at
    → Q at (Unseen error) → WhereUnsafe (λ at flaw. (at ≡ path) × (flaw ≡ Unseen error)) why → WhereUnsafe Q why
where_unseen at path error Q (Unsafe why) same q p =
    subst (λ at. Q at why.flaw) (sym (p.0 ∙ same)) (subst (λ flaw. Q at flaw) (sym p.1) q)
where_unseen at path error Q NoMemory same q p = tt

-- a link is one for whatever it is looked at
link_role : (kind : Kind) (rest : Option (List ℕ)) (found : Found) → has_links_mode found.mode ≡ true → role_of kind rest found ≡ Link
link_role kind (Some rest) found is = rw is refl
link_role kind None found is = rw is refl

link_kept : (kind : Kind) (rest : Option (List ℕ)) (found : Found) → has_links_mode found.mode ≡ true
    → flaw_in (role_of kind rest found) found ≡ None → flaw_in (role_of Folder (Some []) found) found ≡ None
link_kept kind rest found is kept = subst (λ role. flaw_in role found ≡ None)
    (link_role kind rest found is ∙ sym (link_role Folder (Some []) found is)) kept

owned : (own : Bool) (flaw : Flaw) (rest : Option Flaw) → (if not own then Some flaw else rest) ≡ None
    → (if not own then Some flaw else None) ≡ None
owned true flaw rest kept = refl
owned false flaw rest kept = kept

kept_at : (is : Bool) (found : Found) → flaw_in Above found ≡ None → flaw_in (if is then Link else Above) found ≡ None
kept_at true found kept = owned (found.owner == 0) (OtherOwner found.owner) _ kept
kept_at false found kept = kept

-- what keeps the rule on a folder keeps the one on a link
root_is_kept : (found : Found) → flaw_in Above found ≡ None → flaw_in (role_of Folder (Some []) found) found ≡ None
root_is_kept found kept = kept_at (has_links_mode found.mode) found kept

module _ {L : Type 0} (told : Ghosts L) (looks : L) (whole : List ℕ) (links : ℕ) (place : Place) (names name : List ℕ) (kind : Kind)
    (found : Found) where
  -- a folder is entered
  pub entered : (rest : List ℕ) (folder : List ℕ) → GetsTo told looks whole links (spot_at place names)
      → SplitsName names name (Some rest) → told.showed looks (joined_path (string_bytes place.folder) name) found
      → has_links_mode found.mode ≡ false → flaw_in (role_of kind (Some rest) found) found ≡ None
      → IsFolderAt (string_bytes place.folder) name folder
      → GetsTo told looks whole links (record { folder = folder; held = found; names = rest })
  entered rest folder reaches takes showed is kept next = record {
    passed = _;
    goes = enters _ _ _ name rest folder found reaches.goes takes showed is next;
    kept = All-cons KeepsRule _ _ kept reaches.kept;
  }

  -- a link is followed
  pub turned : (rest : Option (List ℕ)) (turn : Turn) → GetsTo told looks whole links (spot_at place names)
      → SplitsName names name rest → told.showed looks (joined_path (string_bytes place.folder) name) found
      → has_links_mode found.mode ≡ true → flaw_in (role_of kind rest found) found ≡ None
      → TurnsAt told looks place (joined_path (string_bytes place.folder) name) rest turn
      → GetsTo told looks whole (links + 1) (spot_at turn.place (string_bytes turn.names))
  turned rest turn reaches takes showed is kept (same, target, names_are, inl (led, relative, stays)) =
      rw (names_are, stays) (record {
        passed = _;
        goes = turns _ _ _ name target rest found reaches.goes takes showed is led relative;
        kept = All-cons KeepsRule _ _ (link_kept kind rest found is kept) reaches.kept;
      })
  turned rest turn reaches takes showed is kept (same, target, names_are, inr (led, (empty, root_showed, root_kept))) =
      let thing : Passed = record { path = joined_path (string_bytes place.folder) name; found = found } in
      let root : Passed = record { path = codes "/"; found = turn.place.held } in
      rw (names_are, empty) (record {
        passed = root ∷ thing ∷ reaches.passed;
        goes = turns_to_root _ _ _ name target rest found turn.place.held reaches.goes takes showed is led root_showed;
        kept = All-cons KeepsRule root (thing ∷ reaches.passed) (root_is_kept turn.place.held root_kept)
            (All-cons KeepsRule thing reaches.passed (link_kept kind rest found is kept) reaches.kept);
      })

-- a name is taken from the names that are left
pub shorter : (names name rest : List ℕ) → SplitsName names name (Some rest) → length rest < length names
shorter names name rest (i, j, finds, front, back, on, before, after) = omega (arith, finds.1.ends, after)

-- a link that can't be followed
pub where_unturned : {L : Type 0} (told : Ghosts L) (looks : L) (kind : Kind) (spot : Spot) (name : List ℕ) (rest : Option (List ℕ))
    (found : Found) (why : PathRefused) → SplitsName spot.names name rest → told.showed looks (joined_path spot.folder name) found
    → has_links_mode found.mode ≡ true → WhereUnsafe (FailsToTurn told looks (joined_path spot.folder name)) why
    → WhereUnsafe (BreaksRule told looks kind spot) why
where_unturned told looks kind spot name rest found why takes showed is = where_unsafe
    (FailsToTurn told looks (joined_path spot.folder name)) (BreaksRule told looks kind spot) why (λ path flaw p. elim p [
      | inl (same, error, barred, flawed) ↦ rw (same, flawed) (unread name rest found error takes showed is barred)
      | inr (same, target, led, flawed) ↦ rw same (at_root name target rest found flaw takes showed is led flawed)
    ])

-- a look-up that goes on
pub came_to : {L : Type 0} (told : Ghosts L) (looks : L) (kind : Kind) (whole : List ℕ) (links : ℕ) (spot : Spot) (next : Option Turn)
    → GetsTo told looks whole links spot → WalksOn told looks kind spot next → CameTo told looks kind whole links next
came_to told looks kind whole links spot None reaches on =
    let (last, reached, ends) = on whole links reaches in (links, omega arith, last, reached, ends)
came_to told looks kind whole links spot (Some turn) reaches on = on whole links reaches

-- from the root
pub from_start : {L : Type 0} (told : Ghosts L) (looks : L) (names : List ℕ) (place : Place) → IsRoot told looks place
    → GetsTo told looks names 0 (spot_at place names)
from_start told looks names place (empty, showed, kept) =
    let root : Passed = record { path = codes "/"; found = place.held } in
    rw empty (record {
      passed = root ∷ [];
      goes = begins place.held showed;
      kept = All-cons KeepsRule root [] (root_is_kept place.held kept) (λ k d low. absurd (omega (arith, low)));
    })

-- the rule is broken further on
pub where_broken : {L : Type 0} (told : Ghosts L) (looks : L) (named : Named) (names : List ℕ) (links : ℕ) (spot : Spot)
    (why : PathRefused) → AreNames told looks named.path.now names → GetsTo told looks names links spot
    → WhereUnsafe (BreaksOn told looks named.kind spot) why → WhereUnsafe (IsRefused told looks named) why
where_broken told looks named names links spot why are reaches = where_unsafe (BreaksOn told looks named.kind spot)
    (IsRefused told looks named) why (λ path flaw on. let (last, reached, breaks) = on names links reaches in inl (record {
      names = names;
      are_names = are;
      links = links;
      spot = last;
      reaches = reached;
      breaks = inl breaks;
    }))

-- nothing is left after few links
pub is_safe : {L : Type 0} (told : Ghosts L) (looks : L) (named : Named) (names : List ℕ) (links : ℕ)
    → AreNames told looks named.path.now names → links ≤ most_links → CameTo told looks named.kind names links None
    → IsSafePath told looks named
is_safe told looks named names links are few (fewer, fits, last, reached, ends) = record {
  names = names;
  are_names = are;
  links = fewer;
  few = omega (arith, fits, few);
  spot = last;
  reaches = reached;
  ends = ends;
}
