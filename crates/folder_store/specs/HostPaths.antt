-- Where the devices of the machine's file system have their files.
use Rattle.std.specs.{
  Prelude.{◌≡◌, ◌⊎◌, ◌==◌, ◌++◌, ℕ, List, [], None, false, codes, decimal, length, if◌then◌else◌},
  Path.path_join,
  Str.Pattern.{RFindsChar, SplitsAroundMatch},
  IoError.error_kind,
}
use Rattle.system_calls.specs.declared.refusal.Denial.{Denial}
use Rattle.hex.specs.Hex.{encode_lower}
use Rattle.folder_store.specs.{Calls.{IsAbsent, flushes_none}, Under.{front_of}}
use Rattle.folder_store.specs.declared.{host_paths.HostPaths.HostPaths, process_mark.ProcessMark.ProcessMark}

-- a refusal that isn't an answer of the system: neither that nothing is there nor that no folders are flushed
abbrev pub IsNoAnswer : Denial → Type 0
IsNoAnswer d = (IsAbsent d → ⊥) × (flushes_none (error_kind d.error) ≡ false)

-- a path, and one in the folder that it leads to, if there is a name
abbrev pub path_of_folder : List ℕ → List ℕ → List ℕ
path_of_folder base folder = if length folder == 0 then base else path_join base folder

-- the path of a name in a folder of a path
abbrev pub path_of_file : List ℕ → List ℕ → List ℕ → List ℕ
path_of_file base folder name = front_of (path_of_folder base folder) ++ name

-- the folder of some paths, and a name's path in it
abbrev pub folder_of : HostPaths → List ℕ
folder_of paths = path_of_folder paths.base.now paths.folder.now

abbrev pub path_named : HostPaths → List ℕ → List ℕ
path_named paths name = front_of (folder_of paths) ++ name

-- a name with the mark of a process, its id and octets of random, after it
abbrev pub with_process_mark : ProcessMark → List ℕ → List ℕ
with_process_mark mark name = name ++ (codes ".P" ++ (decimal mark.process ++ (codes "R" ++ encode_lower mark.random)))

-- the folder that holds what a path names, and its name there: what is before and after the path's last '/'; in the
-- program's own folder, if the path has none
abbrev pub ArePartsOf : (path folder name : List ℕ) → Type 0
ArePartsOf path folder name =
    ((before : List ℕ) × SplitsAroundMatch (RFindsChar 47) path before name
    × (folder ≡ (if length before == 0 then codes "/" else before)))
    ⊎ (RFindsChar 47 path None × (folder ≡ codes ".") × (name ≡ path))

-- these are the paths of a folder of the Maildir at a path
abbrev pub AreInMaildir : HostPaths → (path folder : List ℕ) → Type 0
AreInMaildir paths path folder =
    (paths.base.now ≡ path) × (paths.folder.now ≡ folder) × (paths.scratch.now ≡ codes "tmp") × (paths.suffix.now ≡ [])

-- these are the paths of a folder in which files are made too
abbrev pub AreIn : HostPaths → (folder : List ℕ) → Type 0
AreIn paths folder =
    (paths.base.now ≡ folder) × (paths.folder.now ≡ []) × (paths.scratch.now ≡ []) × (paths.suffix.now ≡ codes ".tmp")

-- a file of this name in a folder with these paths is the one at a path
abbrev pub IsFileAt : HostPaths → (name path : List ℕ) → Type 0
IsFileAt paths name path = (folder : List ℕ) × ArePartsOf path folder name × AreIn paths folder
