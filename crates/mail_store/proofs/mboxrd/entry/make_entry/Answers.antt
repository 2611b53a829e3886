use Rattle.std.proofs.{
  Common.{◌≡◌, ◌≤◌, ◌-◌, ◌+◌, List, [], ◌∷◌, ℕ, ◌++◌, ap, arith, drop, length, take, sym, ◌∙◌, append_assoc, length-append, replicate},
  lemmas.List.{drop_at, length-replicate, replicate_more, take_all, take_at},
}
use Rattle.mail_store.{
  specs.Mboxrd.{entry_of, quoted_text, separator},
  proofs.{MboxLemmas.quoted_longer, mboxrd.entry.make_entry.Goals.In_ok-resize},
}
use Rattle.mail_store.proofs.mboxrd.entry.make_entry.Goals as goal

-- there is room for the entry: the text, and after it line ends
record Room (text bytes : List ℕ) (count size : ℕ) : Type 0 where
  long : length bytes ≡ size
  within : count ≤ size
  front : take count bytes ≡ text
  total : length (entry_of text) ≡ size
  shown : length separator + length (quoted_text text) + 1 ≡ size
  back : drop (size - 1) bytes ≡ 10 ∷ []

room : (c : In_ok-resize) → Room c.args.text.now.items c.resize.new.self.items c.len-count.result c.entry_size-size.result
room c =
    let text = c.args.text.now.items in
    let size = c.entry_size-size.result in
    let rest : List ℕ = replicate (size - length text - 1) 10 in
    let is : length text ≡ c.len-count.result = omega (arith, c.len-count.ensures, c.deref.ensures.len, ap length c.deref.ensures.value) in
    let total : length (entry_of text) ≡ size = sym (c.entry_size-size.ensures
    ∙ ap (λ (l : List ℕ). length (entry_of l)) c.deref.ensures.value) in
    let shown : length separator + length (quoted_text text) + 1 ≡ size =
    omega (arith, total, length-append separator (quoted_text text ++ 10 ∷ []), length-append (quoted_text text) (10 ∷ [])) in
    let more : size - c.len-count.result ≡ size - length text - 1 + 1 = omega (arith, shown, quoted_longer text) in
    let whole = rw (
      take_all size text (omega (arith, shown, quoted_longer text)),
      ← c.len-count.ensures,
      more,
      ←
          replicate_more {X = ℕ} (size - length text - 1) 10,
      ← append_assoc text rest (10 ∷ []),
    ) at c.in_ok-resize.ensures.items in
    let sum = length-append text rest in
    let many = length-replicate {A = ℕ} (size - length text - 1) 10 in
    record {
      long = omega (arith, ap length whole, length-append (text ++ rest) (10 ∷ []), sum, many, shown, quoted_longer text);
      within = omega (arith, is, shown, quoted_longer text);
      front = rw (whole, append_assoc text rest (10 ∷ [])) (take_at text (rest ++ 10 ∷ []) c.len-count.result is);
      total = total;
      shown = shown;
      back = rw whole (drop_at (text ++ rest) (10 ∷ []) (size - 1) (omega (arith, sum, many, shown, quoted_longer text)));
    }

pub quote_within-requires : goal.quote_within-requires
quote_within-requires c =
    let made = room (goal.at.quote_within-requires c).In_ok-resize in
    record {
      fits = (omega (arith, made.long, made.within), omega (arith, made.long));
      whole = rw made.front c.requires;
      room = omega (arith, made.shown, ap (λ (l : List ℕ). length (quoted_text l)) made.front);
    }

pub returns-clause-entry : goal.returns-clause-entry
returns-clause-entry c =
    let made = room (goal.at.returns-clause-entry c).In_ok-resize in
    let bytes = c.quote_within.new.bytes.items in
    let at : c.quote_within.result ≡ length separator =
    omega (arith, made.shown, ap (λ (l : List ℕ). length (quoted_text l)) made.front, c.quote_within.ensures.place) in
    let given = c.put_front.ensures ∙ ap (λ (l : List ℕ). separator ++ drop (length separator) l) c.deref_mut.ensures.value
    ∙ ap (λ (n : ℕ). separator ++ drop n bytes) (sym at)
    ∙ ap (λ (l : List ℕ). separator ++ l) (rw (made.front, made.back) at c.quote_within.ensures.quoted) in
    rw given (take_at (entry_of c.args.text.now.items) _ _ (omega (
      arith,
      made.total,
      made.long,
      c.quote_within.ensures.size,
      ap length c.deref_mut.ensures.value,
      c.deref_mut.ensures.len,
    )))
