use Rattle.std.proofs.Common.{◌≡◌, map, take, vec_len}
use Rattle.folder_drop.specs.{Listing.{size_of_entry, size_of_file}, RealMaildir.{id_of_name, listed_names, uid_of}}
use Rattle.folder_drop.proofs.listing.DropListing.entries.Given as goal

abbrev pub invariant-loop-file : goal.invariant-loop-file
invariant-loop-file l = (vec_len l.entries ≡ l.file-index)
    × (map uid_of l.entries.items ≡ map id_of_name (listed_names (take l.file-index l.self.files)))
    × (map size_of_entry l.entries.items ≡ map size_of_file (take l.file-index l.self.files))
