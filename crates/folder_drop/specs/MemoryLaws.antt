-- The laws of a Maildir in memory.
use Rattle.std.{
  proofs.{
    Common.{ap, refl, sym, subst, ◌∙◌, unsigned_abs},
    lemmas.{Bool.false≢true, Cmp.tied_itself, List.Elements.{All-contains, All-map}, Simd.map-map},
  },
  specs.{
    Ordering.is_lt,
    Prelude.{◌≡◌, ◌≢◌, ℕ, List, Contains, map, pos, slice_index_or},
    declared.cmp.Ordering.TheVariants.{Equal, Less},
  },
}
use Rattle.mail_terms.specs.Distinct.{AreDistinct}
use Rattle.folder_drop.specs.{
  declared.{
    folders_look.FoldersLook.FoldersLook,
    maildir_names.{FileNumber.FileNumber, Folder.Folder, Stamp.Stamp},
    memory_files.{MemoryFile.MemoryFile, MemoryFiles.MemoryFiles},
    memory_names.MemoryName.MemoryName,
  },
  FoldersLook.IsUnchanged,
  MailFiles.{AreMailFiles, DropFile, file_place},
  MemoryFiles.{HasLooked, file_named, mail_files, names_after, octets_at},
  MemoryNames.{AreAscendingPlaces, place_of_name},
  Places.{places_cmp, places_total},
}

pub differ : (a b : Folder × List ℕ) → places_cmp a b ≡ Less → a ≢ b
differ a b less same =
    let tied : places_cmp a b ≡ Equal = subst (λ p. places_cmp a p ≡ Equal) same (tied_itself places_total a) in
    false≢true (ap is_lt (sym tied ∙ less))

distinct_places : (places : List (Folder × List ℕ)) → AreAscendingPlaces places → AreDistinct places
distinct_places places ascending = λ i j d lt within.
    differ (slice_index_or places i d) (slice_index_or places j d) (ascending i j d lt within)

pub places : (d : MemoryFiles) → map file_place (mail_files d) ≡ map place_of_name d.names.items.items
places d = map-map file_place (file_named d.files.items) d.names.items.items

pub content_by_number : (files : List MemoryFile) (names : List MemoryName) (file : DropFile)
    → Contains (map (file_named files) names) file → file.content ≡ octets_at files file.stamp.number.inode
content_by_number files names file there =
    let P : DropFile → Type 0 = λ f. f.content ≡ octets_at files f.stamp.number.inode in
    All-contains P (map (file_named files) names) file (All-map P (file_named files) names (λ k d within. refl)) there

pub keeps_content : (d : MemoryFiles) (look : FoldersLook) (was : List DropFile) (file before : DropFile)
    → HasLooked d look was → Contains (mail_files d) file → Contains was before → file.stamp ≡ before.stamp
    → file.content ≡ before.content
keeps_content d look was file before looked there had same =
    let files = d.files.items in
    content_by_number files d.names.items.items file there ∙ ap (λ (s : Stamp). octets_at files s.number.inode) same
    ∙ sym (content_by_number files (names_after looked.0 d) before
    (subst (λ (l : List DropFile). Contains l before) looked.3 had))

pub rests_so : (d : MemoryFiles) (earlier later : FoldersLook) (was now : List DropFile) → HasLooked d earlier was
    → HasLooked d later now → IsUnchanged earlier later → was ≡ now
rests_so d earlier later was now one other same =
    let e : pos one.0 ≡ pos other.0 = sym one.2 ∙ sym (ap (λ t. t.nanoseconds) same.new_same) ∙ other.2 in
    one.3 ∙ ap (λ (k : ℕ). map (file_named d.files.items) (names_after k d)) (ap unsigned_abs e) ∙ sym other.3

pub keeps_whole : (d : MemoryFiles) → AreMailFiles (mail_files d)
keeps_whole d = record {
  distinct = subst AreDistinct (sym (places d))
      (distinct_places (map place_of_name d.names.items.items) d.names.ascending);
  one = λ a b there here same. let files = d.files.items in
      content_by_number files d.names.items.items a there ∙ ap (λ (n : FileNumber). octets_at files n.inode) same
      ∙ sym (content_by_number files d.names.items.items b here);
}
