-- An open file that is read from its place on, call by call.
use Rattle.std.proofs.Common.{◌≡◌, ◌≤◌, ◌<◌, ◌+◌, ◌-◌, ℕ, zero, suc, List, [], ◌∷◌, ◌++◌, refl, arith, sym, ap, ◌∙◌, length, take, drop}
use Rattle.std.specs.Prelude.{slice_index}
use lib.Seq.{drop-cons}
use Rattle.std.proofs.Common.{length-append, length-drop, length-take-le, take-add, take_at, drop_at, take_all, drop-drop}
use Rattle.std.proofs.lemmas.List.{take-append-le}
use Rattle.std.proofs.lemmas.Slice.{take-put_mid_below}
use borrow.Rule.Slice.PartMut.{mid_of, put_mid, post_of, same_len_mid}
use Rattle.mail_store.specs.{Durable.{Blob}, FlatFile.{edges_of, piece_at}}
use Rattle.folder_store.specs.{Calls.{IsFilled, IsRead, StillLeads, OpenPath, Tree, bytes_read}, FileFolder.{find}}

-- it stays the same file, wherever the next read begins
pub leads_at : (t u : Tree) (file now : OpenPath) (p : ℕ) (b : Blob) → u ≡ t → now ≡ record file { place = p } → StillLeads t file b
    → StillLeads u now b
leads_at t u file now p b same at leads = record {
  turn = ap (λ (o : OpenPath). o.turn) at ∙ leads.turn ∙ ap (λ (v : Tree). v.turn) (sym same);
  there = ap (λ (o : OpenPath). find o.path u.directory.entries) at
      ∙ ap (λ (v : Tree). find file.path v.directory.entries) same ∙ leads.there;
}

pub leads_on : (t u : Tree) (file now : OpenPath) (n : ℕ) (b : Blob) → u ≡ t → now ≡ record file { place = file.place + n }
    → StillLeads t file b
    → StillLeads u now b
leads_on t u file now n b = leads_at t u file now (file.place + n) b

moved_on : (file now later : OpenPath) (m n : ℕ) → now ≡ record file { place = file.place + m }
    → later ≡ record now { place = now.place + n }
    → later ≡ record file { place = file.place + (m + n) }
moved_on file now later m n at on = on ∙ ap (λ (o : OpenPath). record o { place = o.place + n }) at
    ∙ ap (λ (k : ℕ). record file { place = k }) (omega arith)

place_of : (file now : OpenPath) (m : ℕ) → now ≡ record file { place = file.place + m } → now.place ≡ file.place + m
place_of file now m at = ap (λ (o : OpenPath). o.place) at

-- a longer piece
piece_more : (place m n : ℕ) (content : List ℕ)
    → piece_at place (m + n) content ≡ piece_at place m content ++ take n (drop (place + m) content)
piece_more place m n content = take-add m n (drop place content)
    ∙ ap (λ (xs : List ℕ). take m (drop place content) ++ take n xs) (drop-drop m place content)

put_more : (m k n : ℕ) (buf part : List ℕ) → m ≤ length buf → n ≤ length part
    → take (m + n) (put_mid m k buf part) ≡ take m buf ++ take n part
put_more m k n buf part within fits =
    let front = length-take-le m buf within in
    take-add m n (put_mid m k buf part)
    ∙ ap (λ (xs : List ℕ). xs ++ take n (drop m (put_mid m k buf part))) (take_at (take m buf) (part ++ post_of m k buf) m front)
    ∙ ap (λ (xs : List ℕ). take m buf ++ take n xs) (drop_at (take m buf) (part ++ post_of m k buf) m front)
    ∙ ap (λ (xs : List ℕ). take m buf ++ xs) (take-append-le n part (post_of m k buf) fits)

-- more was read behind what the buffer had
pub filled_more : (t u : Tree) (file now later : OpenPath) (buf part : List ℕ) (m n k : ℕ) → u ≡ t → m ≤ length buf → n ≤ length part
    → IsFilled t file m buf now → later ≡ record now { place = now.place + n }
    → ((b : Blob) → StillLeads u now b → IsRead b now.place n part)
    → IsFilled t file (m + n) (put_mid m k buf part) later
filled_more t u file now later buf part m n k same within fits so on reads = record {
  at = moved_on file now later m n so.at on;
  bytes = λ b leads.
      let before = so.bytes b leads in
      let read = reads b (leads_on t u file now m b same so.at leads) in
      let place = place_of file now m so.at in
      let got : take n part ≡ take n (drop (file.place + m) b.content) =
      read.bytes ∙ ap (λ (p : ℕ). take n (drop p b.content)) place in
      let count : n ≡ length (take n (drop (file.place + m) b.content)) =
      read.count ∙ ap (λ (p : ℕ). length (take n (drop p b.content))) place in
      let more = piece_more file.place m n b.content in (
        ap (λ (i : ℕ). i + n) before.0 ∙ ap (λ (i : ℕ). length (piece_at file.place m b.content) + i) count
            ∙ sym (length-append (piece_at file.place m b.content) (take n (drop (file.place + m) b.content)))
            ∙ ap (λ (xs : List ℕ). length xs) (sym more),
        put_more m k n buf part within fits ∙ ap (λ (xs : List ℕ). xs ++ take n part) before.1
            ∙ ap (λ (xs : List ℕ). piece_at file.place m b.content ++ xs) got ∙ sym more,
      );
}

-- nothing was read
pub filled_same : (t : Tree) (file now later : OpenPath) (buf part : List ℕ) (m k : ℕ) → m ≤ length buf → IsFilled t file m buf now
    → later ≡ now → IsFilled t file m (put_mid m k buf part) later
filled_same t file now later buf part m k within so stays = record {
  at = stays ∙ so.at;
  bytes = λ b leads. let before = so.bytes b leads in
      (before.0, take-put_mid_below m k buf part m (omega arith) within ∙ before.1);
}

-- what was read fits
pub put_fits : (m n : ℕ) (buf part : List ℕ) → m ≤ length buf → n ≤ length part → length part ≡ length (mid_of m (length buf - m) buf)
    → m + n ≤ length (put_mid m (length buf - m) buf part)
put_fits m n buf part within fits same =
    let left = length-drop m buf in
    let room = length-take-le (length buf - m) (drop m buf) (omega arith) in
    let long = same_len_mid m (length buf - m) buf part same in
    omega arith

pub put_same : (m : ℕ) (buf part : List ℕ) → m ≤ length buf → length part ≡ length (mid_of m (length buf - m) buf)
    → m ≤ length (put_mid m (length buf - m) buf part)
put_same m buf part within same = let long = same_len_mid m (length buf - m) buf part same in omega arith

-- more room changes nothing of what was read
pub filled_roomy : (t : Tree) (file now : OpenPath) (buf wide : List ℕ) (m : ℕ) → take m wide ≡ take m buf → IsFilled t file m buf now
    → IsFilled t file m wide now
filled_roomy t file now buf wide m front so = record {
  at = so.at;
  bytes = λ b leads. let before = so.bytes b leads in (before.0, front ∙ before.1);
}

-- all of a file was read from its beginning on
pub filled_whole : (t u : Tree) (file now later : OpenPath) (buf part : List ℕ) (m k : ℕ) → u ≡ t → m ≤ length buf
    → IsFilled t file m buf now → later ≡ record now { place = now.place + 0 }
    → ((b : Blob) → StillLeads u now b → IsRead b now.place 0 part)
    → (b : Blob) → StillLeads t file b → file.place ≡ 0 → take m (put_mid m k buf part) ≡ b.content
filled_whole t u file now later buf part m k same within so on reads b leads begins =
    let before = so.bytes b leads in
    let read = reads b (leads_on t u file now m b same so.at leads) in
    let place = place_of file now m so.at in
    let ends : length b.content ≤ m = omega (arith, read.ends refl, place, begins) in
    take-put_mid_below m k buf part m (omega arith) within ∙ before.1
    ∙ ap (λ (p : ℕ). take m (drop p b.content)) begins ∙ take_all m b.content ends

-- what a Vec holds after a write to all of its slice
pub vec_put : (len : ℕ) (xs items : List ℕ) → length xs ≡ len → take len (xs ++ drop (length xs) items) ≡ xs
vec_put len xs items long = take_at xs (drop (length xs) items) len long

-- ---- the ends of a file

octet_and_rest : (xs : List ℕ) (j n : ℕ) → j < length xs → take (suc n) (drop j xs) ≡ slice_index xs j ∷ take n (drop (suc j) xs)
octet_and_rest xs j n within = ap (take (suc n)) (drop-cons xs j 0 within)

first_five : (xs : List ℕ) → 5 ≤ length xs → take 5 xs
    ≡ slice_index xs 0 ∷ slice_index xs 1 ∷ slice_index xs 2 ∷ slice_index xs 3 ∷ slice_index xs 4 ∷ []
first_five xs long = octet_and_rest xs 0 4 (omega arith)
    ∙ ap (λ (ys : List ℕ). slice_index xs 0 ∷ ys) (octet_and_rest xs 1 3 (omega arith)
    ∙ ap (λ (ys : List ℕ). slice_index xs 1 ∷ ys) (octet_and_rest xs 2 2 (omega arith)
    ∙ ap (λ (ys : List ℕ). slice_index xs 2 ∷ ys) (octet_and_rest xs 3 1 (omega arith)
    ∙ ap (λ (ys : List ℕ). slice_index xs 3 ∷ ys) (octet_and_rest xs 4 0 (omega arith)))))

index_back : (xs : List ℕ) (n : ℕ) → 2 ≤ n → slice_index (0 ∷ 0 ∷ xs) n ≡ slice_index xs (n - 2)
index_back xs zero two = absurd (omega arith)
index_back xs (suc zero) two = absurd (omega arith)
index_back xs (suc (suc n)) two = ap (slice_index xs) (omega arith)

last_octets : (xs : List ℕ) → 2 ≤ length xs → take 2 (drop (length xs - 2) xs)
    ≡ slice_index (0 ∷ 0 ∷ xs) (length xs) ∷ slice_index (0 ∷ 0 ∷ xs) (length xs + 1) ∷ []
last_octets xs long = octet_and_rest xs (length xs - 2) 1 (omega arith)
    ∙ ap (λ (i : ℕ). i ∷ take 1 (drop (suc (length xs - 2)) xs)) (sym (index_back xs (length xs) (omega arith)))
    ∙ ap (λ (ys : List ℕ). slice_index (0 ∷ 0 ∷ xs) (length xs) ∷ ys) (octet_and_rest xs (suc (length xs - 2)) 0 (omega arith)
    ∙ ap (λ (i : ℕ). slice_index xs i ∷ []) (omega arith)
    ∙ ap (λ (i : ℕ). i ∷ []) (sym (index_back xs (length xs + 1) (omega arith))))

-- of a file of five bytes or more
pub edges_large : (content head tail : List ℕ) (size from to : ℕ) → 5 ≤ size → size ≡ length content → from ≡ 0 → to ≡ size - 2
    → length head ≡ 5 → length tail ≡ 2 → head ≡ piece_at from (length head) content → tail ≡ piece_at to (length tail) content
    → record { size = size; head = head; tail = tail } ≡ edges_of content
edges_large content head tail size from to long is begins ends five two first last =
    let head_is : head ≡ (edges_of content).head =
    first ∙ ap (λ (n : ℕ). take n (drop from content)) five ∙ ap (λ (p : ℕ). take 5 (drop p content)) begins
    ∙ first_five content (omega arith) in
    let tail_is : tail ≡ (edges_of content).tail =
    last ∙ ap (λ (n : ℕ). take n (drop to content)) two ∙ ap (λ (p : ℕ). take 2 (drop p content)) (ends ∙ ap (λ (n : ℕ). n - 2) is)
    ∙ last_octets content (omega arith) in
    ap (λ (n : ℕ). record { size = n; head = head; tail = tail }) is
    ∙ ap (λ (xs : List ℕ). record { size = length content; head = xs; tail = tail }) head_is
    ∙ ap (λ (xs : List ℕ). record { size = length content; head = (edges_of content).head; tail = xs }) tail_is

-- of a smaller one, which is read whole
pub edges_small : (content buf : List ℕ) (size place : ℕ) → place ≡ 0 → size ≡ length content → length buf ≡ size
    → buf ≡ piece_at place (length buf) content → edges_of buf ≡ edges_of content
edges_small content buf size place begins is long read =
    ap edges_of (read ∙ ap (λ (p : ℕ). take (length buf) (drop p content)) begins ∙ take_all (length buf) content (omega arith))
