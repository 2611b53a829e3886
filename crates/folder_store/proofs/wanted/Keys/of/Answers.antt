use Rattle.std.proofs.{Common.{◌∙◌, ℕ, List, Bor, bytes_eq, rules, sym}, lemmas.List.Sorted.{All-permutation, list_any-IsPermutation}}
use Rattle.mail_terms.specs.UniqueId.{IsLegalId}
use Rattle.mail_store.specs.FileName.{stem, stem_of}
use Rattle.folder_store.proofs.wanted.Keys.of.Goals as goal

pub returns-in_ok-ids-in-Items : goal.returns-in_ok-ids-in-Items
returns-in_ok-ids-in-Items c = record {
  have = λ name. rw c.in-Items.is (sym (list_any-IsPermutation
      (λ id. bytes_eq (stem_of c.in-Items.asked.account.now id.now) (stem name)) _ _
      c.sort_unstable.ensures.permutation) ∙ c.in_ok-ids-in-Items.ensures.all (stem name));
  searchable = record {
    legal = All-permutation (λ (id : Bor (List ℕ)). IsLegalId id.now) _ _ c.sort_unstable.ensures.permutation
        c.in_ok-ids-in-Items.ensures.legal;
    ids = c.sort_unstable.ensures.sorted;
    stems = search rules;
  };
}

pub returns-in_ok-texts-in-Stems : goal.returns-in_ok-texts-in-Stems
returns-in_ok-texts-in-Stems c = record {
  have = λ name. rw c.in-Stems.is (sym (list_any-IsPermutation (λ other. bytes_eq (stem name) other.now) _ _
      c.sort_unstable-in-Stems.ensures.permutation) ∙ c.in_ok-texts-in-Stems.ensures (stem name));
  searchable = record {
    legal = search rules;
    ids = search rules;
    stems = c.sort_unstable-in-Stems.ensures.sorted;
  };
}
