-- Files that readers took, behind a fuse too, and bytes that may be left.
use Rattle.std.proofs.Common.{◌≡◌, ◌+◌, ◌<◌, ℕ, Bool, List, refl, ap, arith, Result, Ok, Err, Vec, String}
use Rattle.mail_terms.specs.FailureCount.{Tallies, counted_up, greatest_count, refuses}
use Rattle.mail_store.specs.{
  declared.{fault.StoreFault.{StoreFault, TheVariants.{Missing, Refused}}, maildir.disk.Folder.Folder},
  Fault.is_refusal,
  Held.ListsAmong,
  Maildir.{AfterTaking, Lists, Maildir, WereTaken},
}

-- ---- names that a device told, and its fuse, which has a count of its own

module _ (n m : ℕ) (below : n < greatest_count) where
  counted_one : m ≡ counted_up n → m ≡ n + 1
  counted_one up = grind (arith, below, up)

  taken_behind : (old left : Maildir) → WereTaken old left → WereTaken (record old { failures = n }) (record left { failures = n })
  taken_behind old left taken = record {
    gone = taken.gone;
    files = taken.files;
    odd = taken.odd;
    told = taken.told;
    is =
        ap (λ (m : Maildir). record m { failures = n }) taken.is;
  }

  module _ {A B : Type 0} (old new : Maildir) where
    lists : (left : Maildir) (folder : Folder) (r : Result (Vec (String A) B) StoreFault)
        → Tallies (refuses is_refusal r) n m → Lists left folder r new
        → Lists (record left { failures = n }) folder r (record new { failures = m })
    lists left folder (Ok names) count (there, theirs, same) = (there, theirs, rw (same, count) refl)
    lists left folder (Err Missing) count (there, same) = (there, rw (same, count) refl)
    lists left folder (Err Refused) count same = rw (same, counted_one count) refl
    lists left folder (Err _) count never = absurd never

    lists_among : (seeks : List ℕ → Bool) (left : Maildir) (r : Result (Vec (String A) B) StoreFault)
        → Tallies (refuses is_refusal r) n m → ListsAmong left seeks r new
        → ListsAmong (record left { failures = n }) seeks r (record new { failures = m })
    lists_among seeks left (Ok names) count (in_new, in_cur, among, named, same, told, sought) =
        (in_new, in_cur, among, named, rw (same, count) refl, told, sought)
    lists_among seeks left (Err Missing) count (lacks, same) = (lacks, rw (same, count) refl)
    lists_among seeks left (Err Refused) count same = rw (same, counted_one count) refl
    lists_among seeks left (Err _) count never = absurd never

    pub fused_lists : (folder : Folder) (r : Result (Vec (String A) B) StoreFault) → Tallies (refuses is_refusal r) n m
        → AfterTaking old (λ left. Lists left folder r new)
        → AfterTaking (record old { failures = n }) (λ left. Lists left folder r (record new { failures = m }))
    fused_lists folder r count (left, taken, does) =
        (record left { failures = n }, taken_behind old left taken, lists left folder r count does)

    pub fused_lists_among : (seeks : List ℕ → Bool) (r : Result (Vec (String A) B) StoreFault)
        → Tallies (refuses is_refusal r) n m → AfterTaking old (λ left. ListsAmong left seeks r new)
        → AfterTaking (record old { failures = n }) (λ left. ListsAmong left seeks r (record new { failures = m }))
    fused_lists_among seeks r count (left, taken, does) =
        (record left { failures = n }, taken_behind old left taken, lists_among seeks left r count does)
