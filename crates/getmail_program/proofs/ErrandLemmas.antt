-- What was said of a session, said of the account, the link, the second and the paths that these are. At the machine's
-- devices a rewriting would look through all that their types are.
use Rattle.std.proofs.Common.{◌≡◌, ◌∙◌, ℕ, Bool, List, Option, ap, subst, sym}
use Rattle.pop3_wire.specs.declared.wire.Wire.{Ghosts as WireGhosts}
use Rattle.mail_store.specs.declared.{
  maildir.disk.MaildirDisk.Ghosts as DiskGhosts,
  file.flat_file.FlatFile.Ghosts as FileGhosts,
}
use Rattle.rc_file.specs.declared.settings.Settings.{Settings}
use Rattle.session_parts.specs.{Account.{Holding}, declared.work.Store.{Store}}
use Rattle.getmail_setup.specs.declared.{errors.Errors.Errors, output.Output.Output}
use Rattle.getmail_program.specs.{Fetching.FetchesInto, declared.{ending.Fetched.Fetched, told.Told.Told}}

-- an account is made of its parts
pub made_of_parts : {D F : Type 0} (new : Holding D F) (settings : Settings) (store : Store D F) (file : F) → settings ≡ new.settings
    → store ≡ new.store → file ≡ new.file → new ≡ record { settings = settings; store = store; file = file }
made_of_parts {D} {F} new settings store file is_settings is_store is_file =
    let holding : Settings → Store D F → F → Holding D F =
    λ settings store file. record { settings = settings; store = store; file = file } in
    sym (ap (λ (s : Settings). holding s store file) is_settings
    ∙ (ap (λ (s : Store D F). holding new.settings s file) is_store
    ∙ ap (λ (f : F). holding new.settings new.store f) is_file))

pub account_of : {W D F O E : Type 0} (link : WireGhosts W) (disk : DiskGhosts D) (file : FileGhosts F)
    (out_contents : O → Option (List ℕ)) (err_contents : E → Option (List ℕ)) (pretends explains : Bool) (now : ℕ)
    (destination seen : List ℕ) (old old' : Holding D F) (wire : W) (told : Told) (new new' : Holding D F) (after : W)
    (out : Output O) (errors : Errors E) (fetched : Fetched) (out' : Output O) (errors' : Errors E) → old ≡ old' → new ≡ new'
    → FetchesInto link disk file out_contents err_contents pretends explains now destination seen old wire told new after out errors
    fetched out' errors'
    → FetchesInto link disk file out_contents err_contents pretends explains now destination seen old' wire told new' after out errors
    fetched out' errors'
account_of {W} {D} {F} link disk file out_contents err_contents pretends explains now destination seen old old' wire told new new' after
    out errors fetched out' errors' is_old is_new is =
    let Fetches = λ (x y : Holding D F). FetchesInto link disk file out_contents err_contents pretends explains now destination seen x
    wire told y after out errors fetched out' errors' in
    subst (λ (y : Holding D F). Fetches old' y) is_new (subst (λ (x : Holding D F). Fetches x new) is_old is)

pub fetches_of : {W D F O E : Type 0} (link : WireGhosts W) (disk : DiskGhosts D) (file : FileGhosts F)
    (out_contents : O → Option (List ℕ)) (err_contents : E → Option (List ℕ)) (pretends explains : Bool) (now now' : ℕ)
    (destination destination' seen seen' : List ℕ) (old old' : Holding D F) (wire wire' : W) (told : Told) (new : Holding D F)
    (after : W) (out : Output O) (errors : Errors E) (fetched : Fetched) (out' : Output O) (errors' : Errors E) → old ≡ old'
    → wire ≡ wire' → now ≡ now' → destination ≡ destination' → seen ≡ seen'
    → FetchesInto link disk file out_contents err_contents pretends explains now destination seen old wire told new after out errors
    fetched out' errors'
    → FetchesInto link disk file out_contents err_contents pretends explains now' destination' seen' old' wire' told new after out errors
    fetched out' errors'
fetches_of {W} {D} {F} link disk file out_contents err_contents pretends explains now now' destination destination' seen seen' old old'
    wire wire' told new after out errors fetched out' errors' is_old is_wire is_now is_destination is_seen is =
    let Fetches = λ (x : Holding D F) (w : W) (second : ℕ) (d : List ℕ) (s : List ℕ). FetchesInto link disk file out_contents
    err_contents pretends explains second d s x w told new after out errors fetched out' errors' in
    subst (λ (x : List ℕ). Fetches old' wire' now' destination' x) is_seen
    (subst (λ (x : List ℕ). Fetches old' wire' now' x seen) is_destination
    (subst (λ (x : ℕ). Fetches old' wire' x destination seen) is_now
    (subst (λ (x : W). Fetches old' x now destination seen) is_wire
    (subst (λ (x : Holding D F). Fetches x wire now destination seen) is_old is))))
