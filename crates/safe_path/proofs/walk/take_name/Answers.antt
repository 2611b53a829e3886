use Rattle.std.proofs.Common.{rules, ◌≡◌, ◌≢◌, None, option_map, true, false}
use Rattle.std.specs.IoError.{error_kind}
use Rattle.std.specs.declared.io.ErrorKind.TheVariants.{NotFound}
use Rattle.std.proofs.lemmas.Result.{err_from_is_err_and}
use Rattle.std.specs.String.{string_bytes}
use Rattle.safe_path.specs.Check.{BreaksRule, role_of, shown_folder}
use Rattle.safe_path.specs.declared.rule.{Kind.TheVariants.{Folder}, Role.TheVariants.{Last}}
use Rattle.safe_path.specs.Check.ArrivesAt.{missing, there}
use Rattle.safe_path.specs.Rule.{flaw_in, has_links_mode}
use Rattle.safe_path.specs.Check.BreaksRule.{nearest, next, unseen}
use Rattle.safe_path.specs.Way.{joined_path}
use Rattle.safe_path.proofs.WalkLemmas.{entered, shorter, turned, where_held, where_unseen, where_unturned}
use Rattle.safe_path.specs.Walk.{spot_at}
use Rattle.safe_path.proofs.walk.take_name.Goals as goal

pub returns-in_err-hold-in-Err-clause-err : goal.returns-in_err-hold-in-Err-clause-err
returns-in_err-hold-in-Err-clause-err g c =
    let at : c.as_str-2.result.now ≡ joined_path (string_bytes c.args.place.folder) c.first_name.result.0.now = search rules in
    let folder : c.as_str-in-Err-2.result.now ≡ shown_folder (string_bytes c.args.place.folder) = search rules in
    let kind : error_kind c.in-Err.error ≡ NotFound = search rules in
    let p = err_from_is_err_and c.from_residual-in_err-hold-in-Err.result c.from_residual-in_err-hold-in-Err.ensures.1 in
    rw (p.1, p.2) (where_held _ _ (Last Folder) c.args.place.held
    (BreaksRule g.L.Looks c.args.looks.now c.args.kind (spot_at c.args.place c.args.names.now)) _ folder
    (λ flaw is. nearest _ _ c.in-Err.error flaw c.first_name.ensures (rw at at c.in-Err.ensures.hid) kind is)
    c.in_err-hold-in-Err.ensures.err)

pub returns-in-Err-2-clause-err : goal.returns-in-Err-2-clause-err
returns-in-Err-2-clause-err g c =
    let at : c.as_str-2.result.now ≡ joined_path (string_bytes c.args.place.folder) c.first_name.result.0.now = search rules in
    let kind : error_kind c.in-Err.error ≢ NotFound = search rules in
    let path : string_bytes c.in_ok-path.path ≡ joined_path (string_bytes c.args.place.folder) c.first_name.result.0.now = search rules in
    where_unseen _ _ c.in-Err.error (BreaksRule g.L.Looks c.args.looks.now c.args.kind (spot_at c.args.place c.args.names.now)) _
    path (unseen _ _ _ c.first_name.ensures (rw at at c.in-Err.ensures.hid) kind) c.unseen.ensures

pub returns-in_err-hold-clause-err : goal.returns-in_err-hold-clause-err
returns-in_err-hold-clause-err g c =
    let at : c.as_str-2.result.now ≡ joined_path (string_bytes c.args.place.folder) c.first_name.result.0.now = search rules in
    let path : c.as_str-3.result.now ≡ joined_path (string_bytes c.args.place.folder) c.first_name.result.0.now = search rules in
    let p = err_from_is_err_and c.from_residual-in_err-hold.result c.from_residual-in_err-hold.ensures.1 in
    rw (p.1, p.2) (where_held _ _ c.role_of.result c.in-Ok.found
    (BreaksRule g.L.Looks c.args.looks.now c.args.kind (spot_at c.args.place c.args.names.now)) _ path
    (λ flaw is. next _ _ c.in-Ok.found flaw c.first_name.ensures (rw at at c.in-Ok.ensures.showed) (rw c.role_of.ensures at is))
    c.in_err-hold.ensures.err)

pub returns-in_err-follow_link-clause-err : goal.returns-in_err-follow_link-clause-err
returns-in_err-follow_link-clause-err g c =
    let at : c.as_str-2.result.now ≡ joined_path (string_bytes c.args.place.folder) c.first_name.result.0.now = search rules in
    let path : string_bytes c.in_ok-path.path ≡ joined_path (string_bytes c.args.place.folder) c.first_name.result.0.now = search rules in
    let is : has_links_mode c.in-Ok.found.mode ≡ true = search rules in
    let p = err_from_is_err_and c.from_residual-in_err-follow_link.result c.from_residual-in_err-follow_link.ensures.1 in
    rw (p.1, p.2) (where_unturned g.L.Looks c.args.looks.now c.args.kind (spot_at c.args.place c.args.names.now)
    c.first_name.result.0.now (option_map (λ rest. rest.now) c.first_name.result.1) c.in-Ok.found c.in_err-follow_link.field-0.0
    c.first_name.ensures (rw at at c.in-Ok.ensures.showed) is (rw path at c.in_err-follow_link.ensures.err))

pub returns-then-is_link-clause-ok : goal.returns-then-is_link-clause-ok
returns-then-is_link-clause-ok g c =
    let at : c.as_str-2.result.now ≡ joined_path (string_bytes c.args.place.folder) c.first_name.result.0.now = search rules in
    let path : string_bytes c.in_ok-path.path ≡ joined_path (string_bytes c.args.place.folder) c.first_name.result.0.now = search rules in
    let is : has_links_mode c.in-Ok.found.mode ≡ true = search rules in
    let turns = rw path at c.in_ok-follow_link.ensures.ok in (
      record {
        name = c.first_name.result.0.now;
        rest = option_map (λ rest. rest.now) c.first_name.result.1;
        takes = c.first_name.ensures;
        is_path = turns.0;
        found = c.in-Ok.found;
        showed = rw turns.0 (rw at at c.in-Ok.ensures.showed);
        is_link = is;
      },
      λ whole links reaches. turned g.L.Looks c.args.looks.now whole links c.args.place c.args.names.now c.first_name.result.0.now
          c.args.kind c.in-Ok.found (option_map (λ rest. rest.now) c.first_name.result.1) c.in_ok-follow_link.field-0 reaches
          c.first_name.ensures (rw at at c.in-Ok.ensures.showed) is (rw c.role_of.ensures at c.in_ok-hold.ensures.ok) turns,
    )

pub returns-in_default-clause-ok : goal.returns-in_default-clause-ok
returns-in_default-clause-ok g c =
    let at : c.as_str-2.result.now ≡ joined_path (string_bytes c.args.place.folder) c.first_name.result.0.now = search rules in
    let is : has_links_mode c.in-Ok.found.mode ≡ false = search rules in
    there c.first_name.result.0.now c.in-Ok.found (rw c.in_default.is at c.first_name.ensures) (rw at at c.in-Ok.ensures.showed) is
    (rw (c.role_of.ensures, c.in_default.is, is) at c.in_ok-hold.ensures.ok)

pub returns-in-Err-clause-ok : goal.returns-in-Err-clause-ok
returns-in-Err-clause-ok g c =
    let at : c.as_str-2.result.now ≡ joined_path (string_bytes c.args.place.folder) c.first_name.result.0.now = search rules in
    let kind : error_kind c.in-Err.error ≡ NotFound = search rules in
    missing _ _ c.in-Err.error c.first_name.ensures (rw at at c.in-Err.ensures.hid) kind c.in_ok-hold-in-Err.ensures.ok

pub returns-clause-ok : goal.returns-clause-ok
returns-clause-ok g c =
    let at : c.as_str-2.result.now ≡ joined_path (string_bytes c.args.place.folder) c.first_name.result.0.now = search rules in
    let is : has_links_mode c.in-Ok.found.mode ≡ false = search rules in
    let takes = rw c.in-Some.is at c.first_name.ensures in (
      shorter c.args.names.now c.first_name.result.0.now c.in-Some.rest.now takes,
      λ whole links reaches. entered g.L.Looks c.args.looks.now whole links c.args.place c.args.names.now c.first_name.result.0.now
          c.args.kind c.in-Ok.found c.in-Some.rest.now (string_bytes c.in_ok-folder.folder) reaches takes
          (rw at at c.in-Ok.ensures.showed) is (rw (c.role_of.ensures, c.in-Some.is) at c.in_ok-hold.ensures.ok)
          (rw c.as_str-4.ensures.value at c.in_ok-folder.ensures),
    )
