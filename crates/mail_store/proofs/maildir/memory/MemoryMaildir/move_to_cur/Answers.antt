use Rattle.std.proofs.{
  Common.{◌≡◌, ◌∙◌, ℕ, suc, List, [], ◌∷◌, ◌++◌, get_or, map, take, drop, refl, sym, ap, inl, inr, rules, String},
  Common.{string_bytes, Vec, Global},
  Math.Seq.split_at,
  lemmas.{Bool.{both_ways, false≢true}, List.map-append},
}
use Rattle.mail_store.{
  specs.{Maildir.{File, file, memory_file}, MemoryMaildir.shown},
  proofs.MaildirLemmas.{base_suffixed, moved_shown},
}
use Rattle.mail_store.proofs.maildir.memory.MemoryMaildir.move_to_cur.Goals as goal

pub returns-then-is_some : goal.returns-then-is_some
returns-then-is_some c =
    let named : string_bytes c.push_str.new.self ≡ c.args.name.now ++ c.args.suffix.now = search rules in
    let there = c.place_of.ensures.there.0 (sym c.is_some.ensures ∙ c.if-is_some.true) in
    (refl, inr (rw (← c.self.view_is) (rw (c.deref.ensures.value, c.as_str.ensures.value, named) at there)))

pub returns-in_default : goal.returns-in_default
returns-in_default c =
    (refl, inl (rw (← c.self.view_is) (λ there. false≢true ((rw c.deref-2.ensures.value at c.in_default.ensures.there).1 there))))

pub returns : goal.returns
returns c =
    let new = c.self.inside.in_new.items in
    let cur = c.self.inside.in_cur.items in
    let at = c.in-Some.at in
    let found = c.remove-content.result in
    let name = c.args.name.now in
    let moved = name ++ c.args.suffix.now in
    let front = map memory_file (take at new) in
    let back = map memory_file (drop (suc at) new) in
    let named : string_bytes c.push_str.new.self ≡ moved = search rules in
    let made : String Global × Vec ℕ Global = (c.push_str.new.self, found.1) in
    let pushed : c.push.new.self.items ≡ cur ++ made ∷ [] = search rules in
    let titled = rw c.deref-2.ensures.value at c.in-Some.ensures.some in
    let here : get_or new at found ≡ found = sym c.remove-content.ensures.value in
    let is_file : memory_file (get_or new at found) ≡ file name found.1.items =
    ap (λ (n : List ℕ). file n (get_or new at found).1.items) (titled.1 found)
    ∙ ap (λ (p : String Global × Vec ℕ Global). file name p.1.items) here in
    let was : map memory_file new ≡ front ++ file name found.1.items ∷ back =
    ap (map memory_file) (split_at new at found titled.0) ∙ map-append memory_file (take at new) _
    ∙ ap (λ (f : File). front ++ f ∷ back) is_file in
    let left : map memory_file c.remove-content.new.self.items ≡ front ++ back =
    ap (map memory_file) c.remove-content.ensures.items ∙ map-append memory_file (take at new) (drop (suc at) new) in
    let came : map memory_file c.push.new.self.items ≡ map memory_file cur ++ file moved found.1.items ∷ [] =
    ap (map memory_file) pushed ∙ map-append memory_file cur (made ∷ [])
    ∙ ap (λ (n : List ℕ). map memory_file cur ++ file n found.1.items ∷ []) named in
    rw (← c.self.view_is) (record {
      front = front;
      content = found.1.items;
      back = back;
      was = was;
      free = λ h. both_ways c.is_some.result c.if-is_some.false (c.is_some.ensures ∙ c.place_of.ensures.there.1
          (rw (c.deref.ensures.value, c.as_str.ensures.value, named) h));
      same = rw (was, left, came) (moved_shown (map memory_file cur) front back (file name found.1.items) (file moved found.1.items)
          (ap (λ (n : List ℕ). file n found.1.items) (base_suffixed name c.args.suffix.now c.requires)));
      is = rw (left, came) refl;
    })
