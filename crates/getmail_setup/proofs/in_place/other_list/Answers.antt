use Rattle.std.proofs.Common.{inr, map}
use Rattle.std.specs.String.{string_bytes}
use Rattle.getmail_setup.proofs.InPlaceLemmas.{tells_among}
use Rattle.getmail_setup.proofs.in_place.other_list.Goals as goal

pub returns : goal.returns
returns g c =
    let path = c.as_str-record.ensures.value in
    let found = tells_among (g.F.LookAt.said c.args.files.now) c.folder_of-folder.result.now c.as_str-username.result.now
    string_bytes c.in_ok-names.names.items c.in_ok-found.found c.in_ok-found.ensures.some
    (rw c.as_slice.ensures.value at c.in_ok-found.ensures.none) in
    inr (
      c.if-setup.false,
      rw (path, c.if-not-is_free.false) at c.is_free.ensures,
      (
        c.folder_of-folder.result.now,
        rw path at c.folder_of-folder.ensures,
        map string_bytes c.in_ok-names.names.items,
        c.in_ok-names.ensures,
        rw c.as_str-username.ensures.value at found,
      ),
    )
