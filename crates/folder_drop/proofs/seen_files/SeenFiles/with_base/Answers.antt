use Rattle.std.proofs.Common.{List, subst}
use Rattle.folder_drop.specs.{declared.maildir_names.PlacedFile.PlacedFile, SeenFiles.HaveBase}
use Rattle.folder_drop.proofs.seen_files.SeenFiles.with_base.Goals as goal

pub returns : goal.returns
returns c = subst (λ (files : List PlacedFile). HaveBase c.args.base.now files c.with_base_among.result.now) c.files.ensures
    c.with_base_among.ensures
