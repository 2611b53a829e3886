use Rattle.std.proofs.{Common.{◌≡◌, ◌≤◌, ◌<◌, ◌∙◌, ℕ, List, ap, arith, get_or, length, map, subst, sym, vec_len}, lemmas.List.take_all}
use Rattle.mail_terms.specs.Distinct.{AreDistinct}
use Rattle.pop3_server.specs.Maildrop.{max_count}
use Rattle.folder_drop.{
  specs.{declared.listed_file.ListedFile.ListedFile, Listing.{FileListing, size_of_entry, size_of_file}, MaildirNames.id_of},
  specs.RealMaildir.{AreAscending, HaveIds, id_of_name, listed_name, listed_names, uid_of},
  proofs.MaildirLemmas.{entry_more, entry_size_more},
}
use Rattle.folder_drop.proofs.listing.DropListing.entries.Goals as goal

pub loop-file-init : goal.loop-file-init
loop-file-init c = (
  c.in_ok-entries.ensures.len,
  ap (map uid_of) c.in_ok-entries.ensures.items,
  ap (map size_of_entry) c.in_ok-entries.ensures.items,
)

pub loop-file-preserved : goal.loop-file-preserved
loop-file-preserved c =
    let i = c.loop-file.file-index in
    let file = c.file-item.result in
    let files : c.as_slice-file-items.result.now ≡ c.args.self.now.files = c.as_slice-file-items.ensures.value
    ∙ ap (λ (l : FileListing). l.files) c.self.view_is in
    let fits : i < length c.args.self.now.files = subst (λ (l : List ListedFile). i < length l) files c.loop-file-test.true in
    let is : file ≡ get_or c.args.self.now.files i file = subst (λ (l : List ListedFile). file ≡ get_or l i file) files c.file-item.is in
    let same : uid_of c.new.result ≡ id_of_name (listed_name file) =
    ap uid_of c.new.ensures ∙ c.from_vec-uid.ensures ∙ c.in_ok-unique_id.ensures.value
    ∙ ap id_of (c.as_bytes.ensures.value ∙ c.base.ensures) in
    let more = c.in_ok-push.ensures.len in
    let before = c.loop-file.invariant.0 in (
      omega (arith, more, before),
      rw c.in_ok-push.ensures.items (entry_more c.loop-file.entries.items c.args.self.now.files i c.new.result file fits
          is same c.loop-file.invariant.1),
      rw c.in_ok-push.ensures.items (entry_size_more c.loop-file.entries.items c.args.self.now.files i c.new.result file fits
          is (ap size_of_entry c.new.ensures) c.loop-file.invariant.2),
    )

pub returns-clause-within : goal.returns-clause-within
returns-clause-within c =
    let same = c.loop-file.invariant.0 in
    let end = c.loop-file.auto.file-index-end in
    let long = ap length c.as_slice-file-items.ensures.value in
    let few = c.self.invariant.count in
    let within : vec_len c.loop-file.entries ≤ max_count = omega (arith, same, end, long, few) in
    within

pub returns-clause-names : goal.returns-clause-names
returns-clause-names c =
    let i = c.loop-file.file-index in
    let files : c.as_slice-file-items.result.now ≡ c.args.self.now.files = c.as_slice-file-items.ensures.value
    ∙ ap (λ (l : FileListing). l.files) c.self.view_is in
    let all : length c.args.self.now.files ≤ i = subst (λ (l : List ListedFile). length l ≤ i) files c.loop-file-test.false in
    c.loop-file.invariant.1 ∙ ap (λ (l : List ListedFile). map id_of_name (listed_names l)) (take_all i c.args.self.now.files all)

pub returns-clause-sizes : goal.returns-clause-sizes
returns-clause-sizes c =
    let i = c.loop-file.file-index in
    let files : c.as_slice-file-items.result.now ≡ c.args.self.now.files = c.as_slice-file-items.ensures.value
    ∙ ap (λ (l : FileListing). l.files) c.self.view_is in
    let all : length c.args.self.now.files ≤ i = subst (λ (l : List ListedFile). length l ≤ i) files c.loop-file-test.false in
    c.loop-file.invariant.2 ∙ ap (λ (l : List ListedFile). map size_of_file l) (take_all i c.args.self.now.files all)

pub returns-clause-in_order : goal.returns-clause-in_order
returns-clause-in_order c = subst (λ (l : FileListing). AreAscending (listed_names l.files)) c.self.view_is c.self.invariant.ascending

pub returns-clause-distinct : goal.returns-clause-distinct
returns-clause-distinct c =
    let ids : HaveIds c.loop-file.entries.items (listed_names c.args.self.now.files) = returns-clause-names c in
    let distinct : AreDistinct (map id_of_name (listed_names c.args.self.now.files)) =
    subst (λ (l : FileListing). AreDistinct (map id_of_name (listed_names l.files))) c.self.view_is c.self.invariant.distinct in
    subst (λ (l : List (List ℕ)). AreDistinct l) (sym ids) distinct
