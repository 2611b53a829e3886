use Rattle.std.proofs.Common.{◌≡◌, ◌∷◌, [], ℕ, List, Ok, Err, Result, map, refl}
use Rattle.std.specs.Prelude.{IfErr, OnOk}
use Rattle.safe_path.specs.{
  Check.{IsFirstRefused, WhereUnsafe},
  declared.{refused.PathRefused.{PathRefused, TheVariants.{NoMemory, Unsafe}}, rule.{Flaw.Flaw, Kind.Kind, Named.Named}},
}
use Rattle.folder_drop.specs.SafeMaildir.{AreFolders, IsRefusedOn, named_so}
use Rattle.folder_drop.proofs.safe_maildir.check_maildir.Goals as goal

if_ok : {T E P Q : Type 0} (result : Result T E) → (P → Q) → OnOk result P → OnOk result Q
if_ok (Ok done) follows is = follows is
if_ok (Err error) follows is = tt

if_refused : {T : Type 0} {P Q : List ℕ → Flaw → Type 0} (result : Result T PathRefused)
    → ((path : List ℕ) (flaw : Flaw) → P path flaw → Q path flaw) → IfErr result (WhereUnsafe P) → IfErr result (WhereUnsafe Q)
if_refused (Ok done) follows is = tt
if_refused (Err (Unsafe why)) follows is = follows _ _ is
if_refused (Err NoMemory) follows is = tt

three : (things : List Named) (a b c : Named) (x y z : List ℕ × Kind) → things ≡ a ∷ b ∷ c ∷ [] → named_so a ≡ x → named_so b ≡ y
    → named_so c ≡ z → map named_so things ≡ x ∷ y ∷ z ∷ []
three things a b c x y z is one two other = rw (is, one, two, other) refl

pub returns-clause-safe : goal.returns-clause-safe
returns-clause-safe g c =
    let are : AreFolders c.args.maildir.now c.as_slice.result.now = three _ _ _ _ _ _ _ c.as_slice.ensures c.folder.ensures
    (rw (← c.in_ok-in_new.ensures, ← c.as_str.ensures.value) c.folder-2.ensures)
    (rw (← c.in_ok-in_cur.ensures, ← c.as_str-2.ensures.value) c.folder-3.ensures) in
    if_ok c.check_paths.result (λ is. (c.as_slice.result.now, are, is)) c.check_paths.ensures.safe

pub returns-clause-refused : goal.returns-clause-refused
returns-clause-refused g c =
    let are : AreFolders c.args.maildir.now c.as_slice.result.now = three _ _ _ _ _ _ _ c.as_slice.ensures c.folder.ensures
    (rw (← c.in_ok-in_new.ensures, ← c.as_str.ensures.value) c.folder-2.ensures)
    (rw (← c.in_ok-in_cur.ensures, ← c.as_str-2.ensures.value) c.folder-3.ensures) in
    if_refused {P = IsFirstRefused g.L.Looks g.L.ReadFile c.args.looks.now c.as_slice.result.now}
    {Q = IsRefusedOn g.L.Looks g.L.ReadFile c.args.looks.now c.args.maildir.now} c.check_paths.result
    (λ path flaw is. (c.as_slice.result.now, are, is)) c.check_paths.ensures.refused
