-- What is cut off from a file, kept at the end of another.
use Rattle.std.proofs.{
  Common.{◌≡◌, ◌<◌, ◌≤◌, ◌+◌, ◌-◌, ◌++◌, ◌∙◌, ℕ, List, [], Option, Some, option_map, Ok, Err, arith, refl, ap, sym, subst, inl, inr},
  Common.{None, append_assoc, append-nil, length, min, take, drop, take-append-drop, bytes_eq},
  Math.Seq.{take-add, take-length},
  lemmas.{Slice.Eq.bytes_eq-Decides, Bool.{cases_Bool, cond-true, cond-false}},
  lemmas.List.{drop-drop, take-take, drop-take, length-drop, length-take, take_all, take_min},
}
use Rattle.mail_store.{
  specs.{declared.{fault.StoreFault.StoreFault, file.flat_file.Edges.Edges}, Durable.{Blob, Disk, content_in, seen_on}},
  specs.{DiskCalls.AppendsDisk, FlatFile.{Stored, piece_at}},
  proofs.DiskLemmas.{appends},
}
use Rattle.folder_store.specs.{
  CutOff.{KeepsAll, KeepsFront, bytes_from, bytes_of, grown, last_of, octets_had, octets_lacked},
  FileFolder.{Directory, MeasuresFile, content_at},
}

-- ---- a file and a text, piece by piece

-- a piece that was read of a file, behind those that were read before
pub piece_read : (file : Option (List ℕ)) (bytes buf : List ℕ) (start done at count n : ℕ) → file ≡ Some bytes
    → at ≡ start + done → take count buf ≡ piece_at at n bytes
    → take count buf ≡ take n (drop done (drop start (bytes_of file)))
piece_read file bytes buf start done at count n is place piece =
    piece ∙ ap (λ (k : ℕ). take n (drop k bytes)) place ∙ ap (take n) (sym (drop-drop done start bytes))
    ∙ ap (λ (o : Option (List ℕ)). take n (drop done (drop start (bytes_of o)))) (sym is)

whole_piece : (n : ℕ) (xs : List ℕ) → take (length (take n xs)) xs ≡ take n xs
whole_piece n xs = ap (λ (m : ℕ). take m xs) (length-take n xs) ∙ take_min n xs

-- one more piece of both is alike
pub alike_on : (xs ys front piece : List ℕ) (n done count next shared : ℕ) → front ≡ take n (drop done xs)
    → piece ≡ take n (drop done ys) → front ≡ take (length front) piece → count ≡ length front → length xs ≡ shared → done ≤ shared
    → take done xs ≡ take done ys → next ≡ min (done + count) 18446744073709551615 → shared < 18446744073709551616
    → (next ≤ shared) × (take next xs ≡ take next ys)
alike_on xs ys front piece n done count next shared is other same counted long within alike sum fits =
    let size : length front ≡ min n (length xs - done) =
    ap length is ∙ length-take n (drop done xs) ∙ ap (min n) (length-drop done xs) in
    let here : take (length front) (drop done xs) ≡ front =
    ap (λ (zs : List ℕ). take (length zs) (drop done xs)) is ∙ whole_piece n (drop done xs) ∙ sym is in
    let there : take (length front) (drop done ys) ≡ front =
    sym (same ∙ ap (take (length front)) other ∙ take-take (length front) n (drop done ys) (omega (arith, size))) in
    let on : next ≡ done + length front = omega (arith, sum, counted, size, long, within, fits) in (
      omega (arith, on, size, long, within),
      ap (λ (k : ℕ). take k xs) on ∙ take-add done (length front) xs
          ∙ ap (λ (zs : List ℕ). zs ++ take (length front) (drop done xs)) alike
          ∙ ap (λ (zs : List ℕ). take done ys ++ zs) (here ∙ sym there) ∙ sym (take-add done (length front) ys)
          ∙ ap (λ (k : ℕ). take k ys) (sym on),
    )

pub all_alike : (xs ys : List ℕ) (done shared : ℕ) → length xs ≡ shared → shared ≤ done → done ≤ shared
    → take done xs ≡ take done ys → xs ≡ take shared ys
all_alike xs ys done shared long all within alike =
    let whole : done ≡ shared = omega (arith, all, within) in
    sym (take-length xs) ∙ ap (λ (k : ℕ). take k xs) (long ∙ sym whole) ∙ alike ∙ ap (λ (k : ℕ). take k ys) whole

pub last_long : (n : ℕ) (xs : List ℕ) → n ≤ length xs → length (last_of n xs) ≡ n
last_long n xs within = omega (arith, length-drop (length xs - n) xs, within)

-- a piece of a front of a text is a front of one of the text
pub front_alike : (xs ys front piece : List ℕ) (n done shared : ℕ) → front ≡ take n (drop done xs) → piece ≡ take n (drop done ys)
    → done < shared → 0 < n → length xs ≡ shared → xs ≡ take shared ys → (0 < length front) × (front ≡ take (length front) piece)
front_alike xs ys front piece n done shared is other below some long same =
    let size : length front ≡ min n (length xs - done) =
    ap length is ∙ length-take n (drop done xs) ∙ ap (min n) (length-drop done xs) in
    let upto : done + (shared - done) ≡ shared = omega (arith, below) in
    let back : drop done xs ≡ take (shared - done) (drop done ys) =
    ap (drop done) same ∙ ap (λ (m : ℕ). drop done (take m ys)) (sym upto) ∙ drop-take done (shared - done) ys in
    let there : front ≡ take (length front) (drop done ys) =
    is ∙ sym (whole_piece n (drop done xs)) ∙ ap (λ (zs : List ℕ). take (length zs) (drop done xs)) (sym is)
    ∙ ap (take (length front)) back ∙ take-take (length front) (shared - done) (drop done ys) (omega (arith, size, long)) in (
      omega (arith, size, long, below, some),
      there ∙ sym (ap (take (length front)) other ∙ take-take (length front) n (drop done ys) (omega (arith, size))),
    )

-- how many octets of a text a file ends with
pub had_all : (len shared : ℕ) (text ours : List ℕ) → shared ≡ min (length ours) len → last_of shared ours ≡ take shared text
    → shared ≡ octets_had len text ours
had_all len shared text ours is alike =
    let same : last_of (min (length ours) len) ours ≡ take (min (length ours) len) text =
    subst (λ (n : ℕ). last_of n ours ≡ take n text) is alike in
    is ∙ sym (cond-true _ (min (length ours) len) 0 ((bytes_eq-Decides _ _).1 same))

pub had_none : (len shared : ℕ) (text ours : List ℕ) → shared ≡ min (length ours) len → (last_of shared ours ≡ take shared text → ⊥)
    → 0 ≡ octets_had len text ours
had_none len shared text ours is apart =
    let most : ℕ = min (length ours) len in elim (cases_Bool (bytes_eq (last_of most ours) (take most text))) [
      | inl same ↦ absurd (apart (subst (λ (n : ℕ). last_of n ours ≡ take n text) (sym is) ((bytes_eq-Decides _ _).0 same)))
      | inr differ ↦ sym (cond-false _ most 0 differ)
    ]

-- ---- appending

grown_more : (file : Option (List ℕ)) (xs ys : List ℕ) → grown ys (grown xs file) ≡ grown (xs ++ ys) file
grown_more None xs ys = refl
grown_more (Some bytes) xs ys = ap Some (append_assoc bytes xs ys)

grown_nothing : (file : Option (List ℕ)) → grown [] file ≡ file
grown_nothing None = refl
grown_nothing (Some bytes) = ap Some (append-nil bytes)

-- what calls see after an append
appended_all : (old new : Disk) (bytes : List ℕ) → AppendsDisk {T = Unit {0}} old bytes (Ok tt) new
    → seen_on new ≡ grown bytes (seen_on old)
appended_all old new bytes (b, c, at, is, e) =
    ap seen_on e ∙ ap Some (ap content_in is) ∙ sym (ap (λ (o : Option Blob). grown bytes (option_map content_in o)) at)

appended_front : (old new : Disk) (bytes : List ℕ) (fault : StoreFault) → AppendsDisk {T = Unit {0}} old bytes (Err fault) new
    → (front rest : List ℕ) × (bytes ≡ front ++ rest) × (seen_on new ≡ grown front (seen_on old))
appended_front old new bytes fault (inl same) = ([], bytes, refl, ap seen_on same ∙ sym (grown_nothing (seen_on old)))
appended_front old new bytes fault (inr (b, c, at, is, e)) =
    let has : seen_on old ≡ Some b.content = ap (option_map content_in) at in
    let (front, rest, parts, now) = appends {T = Unit {0}} old new bytes 0 1 (Err fault) (inr (b, c, at, is, e)) refl b.content has in
    (front, rest, parts, ap (λ (s : Stored). s.content) now ∙ sym (ap (grown front) has))

-- a piece that was read of the other file is one of the text to be copied
text_piece : (theirs : Option (List ℕ)) (bytes buf : List ℕ) (from at n read count : ℕ) → theirs ≡ Some bytes → from ≤ at
    → read ≡ length (piece_at at n bytes) → take read buf ≡ piece_at at n bytes → count ≤ read
    → (take count buf ≡ take count (drop (at - from) (drop from (bytes_of theirs))))
    × (count ≤ length (drop from (bytes_of theirs)) - (at - from))
text_piece theirs bytes buf from at n read count there begun counted piece within =
    let same : bytes_of theirs ≡ bytes = ap bytes_of there in
    let size : read ≡ min n (length bytes - at) = counted ∙ length-take n (drop at bytes) ∙ ap (min n) (length-drop at bytes) in
    let back : drop at bytes ≡ drop (at - from) (drop from (bytes_of theirs)) =
    ap (λ (k : ℕ). drop k bytes) (omega (arith, begun)) ∙ sym (drop-drop (at - from) from bytes)
    ∙ ap (λ (zs : List ℕ). drop (at - from) (drop from zs)) (sym same) in (
      sym (take-take count read buf within) ∙ ap (take count) piece ∙ take-take count n (drop at bytes) (omega (arith, size, within))
          ∙ ap (take count) back,
      omega (arith, size, within, length-drop from (bytes_of theirs), ap length same, begun),
    )

-- one more piece was copied
pub copied_on : (theirs : Option (List ℕ)) (bytes buf : List ℕ) (from at n read count : ℕ) (file : Option (List ℕ)) (mid new : Disk)
    → theirs ≡ Some bytes → from ≤ at → read ≡ length (piece_at at n bytes) → take read buf ≡ piece_at at n bytes → count ≤ read
    → at - from ≤ length (drop from (bytes_of theirs)) → seen_on mid ≡ grown (take (at - from) (drop from (bytes_of theirs))) file
    → AppendsDisk {T = Unit {0}} mid (take count buf) (Ok tt) new
    → (at + count - from ≤ length (drop from (bytes_of theirs)))
    × (seen_on new ≡ grown (take (at + count - from) (drop from (bytes_of theirs))) file)
copied_on theirs bytes buf from at n read count file mid new there begun counted piece within fits copied appends =
    let text = drop from (bytes_of theirs) in
    let (is, some) = text_piece theirs bytes buf from at n read count there begun counted piece within in
    let sum : at + count - from ≡ (at - from) + count = omega (arith, begun) in (
      omega (arith, sum, some, fits),
      appended_all mid new (take count buf) appends ∙ ap (grown (take count buf)) copied
          ∙ grown_more file (take (at - from) text) (take count buf)
          ∙ ap (λ (zs : List ℕ). grown (take (at - from) text ++ zs) file) is
          ∙ ap (λ (zs : List ℕ). grown zs file) (sym (take-add (at - from) count text) ∙ ap (λ (k : ℕ). take k text) (sym sum)),
    )

-- a copy that is refused, before and in an append
pub copied_front : (text : List ℕ) (done len : ℕ) (old new : Option (List ℕ)) → done ≤ len → new ≡ grown (take done text) old
    → (front rest : List ℕ) × (take len text ≡ front ++ rest) × (new ≡ grown front old)
copied_front text done len old new within is = (
  take done text,
  take (len - done) (drop done text),
  ap (λ (k : ℕ). take k text) (omega (arith, within)) ∙ take-add done (len - done) text,
  is,
)

pub copied_part : (theirs : Option (List ℕ)) (bytes buf : List ℕ) (from at end n read count : ℕ) (file : Option (List ℕ))
    → (mid new : Disk) (fault : StoreFault)
    → theirs ≡ Some bytes → from ≤ at → at < end → read ≡ length (piece_at at n bytes) → take read buf ≡ piece_at at n bytes
    → count ≤ read → count ≤ end - at
    → seen_on mid ≡ grown (take (at - from) (drop from (bytes_of theirs))) file
    → AppendsDisk {T = Unit {0}} mid (take count buf) (Err fault) new
    → (front rest : List ℕ) × (take (end - from) (drop from (bytes_of theirs)) ≡ front ++ rest) × (seen_on new ≡ grown front file)
copied_part theirs bytes buf from at end n read count file mid new fault there begun ahead counted piece within before copied refused =
    let text = drop from (bytes_of theirs) in
    let (is, some) = text_piece theirs bytes buf from at n read count there begun counted piece within in
    let (front, rest, parts, now) = appended_front mid new (take count buf) fault refused in
    let done : ℕ = at - from in
    let more : ℕ = end - at - count in
    let whole : take (end - from) text ≡ take done text ++ (take count (drop done text) ++ take more (drop count (drop done text))) =
    ap (λ (k : ℕ). take k text) (omega (arith, begun, ahead, before)) ∙ take-add done (count + more) text
    ∙ ap (λ (zs : List ℕ). take done text ++ zs) (take-add count more (drop done text)) in (
      take done text ++ front,
      rest ++ take more (drop count (drop done text)),
      whole ∙ ap (λ (zs : List ℕ). take done text ++ (zs ++ take more (drop count (drop done text)))) (sym is ∙ parts)
          ∙ simp append_assoc,
      now ∙ ap (grown front) copied ∙ grown_more file (take done text) front,
    )

-- ---- what is kept

had_within : (len : ℕ) (text ours : List ℕ) → octets_had len text ours ≤ len
had_within len text ours =
    let shared : ℕ = min (length ours) len in
    let ends = bytes_eq (last_of shared ours) (take shared text) in
    elim (cases_Bool ends) [
      | inl same ↦ let is : octets_had len text ours ≡ shared = cond-true ends shared 0 same in omega (arith, is)
      | inr differ ↦ let is : octets_had len text ours ≡ 0 = cond-false ends shared 0 differ in omega (arith, is)
    ]

-- a file ends with a text that it was given the rest of
ends_with : (text ours : List ℕ) → (before : List ℕ) × (ours ++ octets_lacked text ours ≡ before ++ text)
ends_with text ours =
    let shared : ℕ = min (length ours) (length text) in
    let ends = bytes_eq (last_of shared ours) (take shared text) in
    let front : List ℕ = take (length ours - shared) ours in
    elim (cases_Bool ends) [
      | inl same ↦ (
        front,
        ap (λ (n : ℕ). ours ++ drop n text) (cond-true ends shared 0 same)
            ∙ ap (λ (zs : List ℕ). zs ++ drop shared text) (sym (take-append-drop (length ours - shared) ours))
            ∙ append_assoc front (last_of shared ours) (drop shared text)
            ∙ ap (λ (zs : List ℕ). front ++ (zs ++ drop shared text)) ((bytes_eq-Decides _ _).0 same)
            ∙ ap (λ (zs : List ℕ). front ++ zs) (take-append-drop shared text),
      )
      | inr differ ↦ (ours, ap (λ (n : ℕ). ours ++ drop n text) (cond-false ends shared 0 differ))
    ]

-- what is copied is what the file doesn't end with
pub copies_lacked : (first second third : Directory) (name : List ℕ) (edges : Edges) (start from n : ℕ) (ours : List ℕ)
    → MeasuresFile first name (Ok edges) second → third ≡ second → edges.size < 18446744073709551616 → start < 18446744073709551616
    → n ≡ octets_had (edges.size - start) (bytes_from second name start) ours → from ≡ min (start + n) 18446744073709551615
    → take (edges.size - from) (bytes_from third name from) ≡ octets_lacked (bytes_from first name start) ours
copies_lacked first second third name edges start from n ours ((was, there, is), same) still fits starts had sum =
    let end : ℕ = edges.size in
    let long : end ≡ length was = ap (λ (e : Edges). e.size) is in
    let text : List ℕ = drop start was in
    let has : bytes_of (content_at first name) ≡ was = ap bytes_of there in
    let size : length text ≡ end - start = omega (arith, length-drop start was, long) in
    let count : n ≡ octets_had (length text) text ours =
    had ∙ ap (λ (d : Directory). octets_had (end - start) (bytes_from d name start) ours) same
    ∙ ap (λ (zs : List ℕ). octets_had (end - start) (drop start zs) ours) has ∙ ap (λ (k : ℕ). octets_had k text ours) (sym size) in
    let within = had_within (length text) text ours in
    let at : from ≡ start + n = omega (arith, sum, count, within, size, fits, starts) in
    let all : length (drop from was) ≤ end - from = omega (arith, length-drop from was, long) in
    ap (λ (d : Directory). take (end - from) (bytes_from d name from)) (still ∙ same)
    ∙ ap (λ (zs : List ℕ). take (end - from) (drop from zs)) has ∙ take_all (end - from) (drop from was) all
    ∙ ap (λ (k : ℕ). drop k was) at ∙ sym (drop-drop n start was) ∙ ap (λ (k : ℕ). drop k text) count
    ∙ ap (λ (zs : List ℕ). octets_lacked (drop start zs) ours) (sym has)

pub keeps_all : (text part : List ℕ) (old mid new : Option (List ℕ)) → part ≡ octets_lacked text (bytes_of old)
    → mid ≡ Some (bytes_of old) → new ≡ grown part mid → KeepsAll text old new
keeps_all text part old mid new is made copied =
    let now : new ≡ Some (bytes_of old ++ octets_lacked text (bytes_of old)) =
    copied ∙ ap (grown part) made ∙ ap (λ (zs : List ℕ). Some (bytes_of old ++ zs)) is in
    let ends = ends_with text (bytes_of old) in
    (now, (ends.0, now ∙ ap Some ends.1))

pub keeps_front : (text part front rest : List ℕ) (old mid new : Option (List ℕ)) → part ≡ octets_lacked text (bytes_of old)
    → mid ≡ Some (bytes_of old) → part ≡ front ++ rest → new ≡ grown front mid → KeepsFront text old new
keeps_front text part front rest old mid new is made parts copied =
    inr (front, rest, sym is ∙ parts, copied ∙ ap (grown front) made)

-- all of a text is a front of it
pub all_front : (text : List ℕ) (old new : Option (List ℕ)) → KeepsAll text old new → KeepsFront text old new
all_front text old new kept =
    inr (octets_lacked text (bytes_of old), [], sym (append-nil (octets_lacked text (bytes_of old))), kept.0)
