-- The premise is never true of a real folder, so what the trait says under it needs no proof.
use Rattle.std.{proofs.Common.{◌≡◌, ℕ, Err, List, Ok, Result}, specs.Prelude.IfOk}
use Rattle.folder_drop.specs.{declared.folders_look.FoldersLook.FoldersLook, MailFiles.{DropFile, Stays}}
use Rattle.folder_drop.proofs.maildir_folders.MaildirFoldersMailFiles.TheImpl.Goals as goal

nothing_told : {T E : Type 0} (result : Result T E) → IfOk result (λ _. Unit {0})
nothing_told (Ok done) = tt
nothing_told (Err error) = tt

same_path : {D : Type 0} (path : D → List ℕ) (old new : D) → path new ≡ path old
    → Stays path (λ (d : D) (look : FoldersLook) (was : List DropFile). Unit {0}) old new
same_path path old new same = record { place = same; looks = λ look was is. is }

pub look-tells : goal.look-tells
look-tells g x c = record { stays = same_path _ _ _ c.ensures; looks = λ none. absurd none }

pub close-tells : goal.close-tells
close-tells g x c = record { stays = same_path _ _ _ c.ensures; kept = λ none. absurd none }

pub unlink-tells : goal.unlink-tells
unlink-tells g x c = record {
  removed = λ number found. nothing_told c.result;
  takes = record {
    stays = same_path _ _ _ c.ensures;
    names = λ way number is. is;
    lacks = λ none. absurd none;
  };
}
