-- Each answer of a server whose maildrop refuses nothing is a good reply, as a client takes it.
use Rattle.std.{
  proofs.Common.{◌≡◌, ◌≤◌, ◌<◌, ◌+◌, ◌-◌, ◌^◌, ◌∙◌, ℕ, zero, suc, false, List, [], ◌∷◌, ◌++◌, None, Some, Ok, Result, IsOk, append-nil, ap},
  proofs.Common.{append_assoc, ap₂, arith, codes, decimal, length, length-append, map, refl, subst, sym},
  proofs.lemmas.{Bool.false≢true, Fmt.length-decimal-le, List.Folds.list_all-append},
  specs.{List.{AllByRecursion, AllZip, flat_map}, Prelude.slice_index_or},
}
use Rattle.mail_terms.{
  specs.{Listing.{UidRow, message_limit}, Numbering.IsNumbering, declared.listing.ScanRow.ScanRow},
  proofs.ListingLemmas.short_id,
}
use Rattle.pop3_wire.{
  proofs.{BodyLemmas.stuffed_is_body, RowsLemmas.{first_lines_are_read, no_lf_decimal, scan_rows_are_read, uid_rows_are_read}},
  specs.{Body.{IsContent, dot}, Fields.{number_and_id, number_and_size}, Line.{HoldsNoLf, crlf, ended}, Reply.{IsFirstLine, without_space}},
  specs.{Reading.{GivesCount, IsScanLine, IsUidLine, WholeReply, gives_body, reply_bytes}, Rows.scan_row, World.Message},
  specs.declared.{reply.Status.TheVariants.Positive, command.Command.TheVariants.{ListAll, Stat, UidlAll}},
}
use Rattle.pop3_client.specs.Turns.{Fits, IsGood, IsListingRow, IsShort, LinesFit, Turn, gives_count, list, retr, stat, uidl}
use Rattle.pop3_server.{
  proofs.HonestLemmas.IsServed,
  specs.{Maildrop.max_size, declared.rows.MessageRow.MessageRow},
  specs.ServerMachine.{lines_from, listed, octets_line, message_row, said, scan_line, text_body, uid_line},
}
use Rattle.local_fetch.specs.Good.{IsWithin}

-- the body's lines stand for rows that are numbered from 1 to n
abbrev pub AreNumbered : {R : Type 0} → (List ℕ → R → Type 0) → (R → ℕ) → ℕ → WholeReply → Type 0
AreNumbered {R} IsThisRow number n reply =
    (lines : List (List ℕ)) × (reply.body ≡ Some lines) × ((rows : List R) → AllZip IsThisRow lines rows → IsNumbering n (map number rows))

-- what a reply tells of n messages
abbrev pub Tells : ℕ → Turn → WholeReply → Type 0
Tells n (Some Stat) reply = GivesCount reply n
Tells n (Some UidlAll) reply = AreNumbered IsUidLine (λ (row : UidRow). row.number) n reply
Tells n (Some ListAll) reply = AreNumbered IsScanLine (λ (row : ScanRow). row.number) n reply
Tells n _ reply = Unit {0}

abbrev pub IsSaid : ℕ → Turn → WholeReply → Type 0
IsSaid n turn reply = IsGood turn reply × Tells n turn reply

-- the answer to a turn is a whole and good reply of a server with n messages
abbrev pub IsGoodAnswer : ℕ → Turn → List ℕ → Type 0
IsGoodAnswer n turn answer = (reply : WholeReply) × (answer ≡ reply_bytes reply) × IsSaid n turn reply

-- one line that says yes
pub plain : (n : ℕ) (turn : Turn) (answer after : List ℕ) → answer ≡ said (codes "+OK" ++ after) → HoldsNoLf after → length after ≤ 2000
    → Fits turn (without_space after) → gives_body turn ≡ false → (IsFirstLine (codes "+OK" ++ after) Positive (without_space after)
    → Tells n turn (record { first = codes "+OK" ++ after; body = None })) → IsGoodAnswer n turn answer
plain n turn answer after is none short fits no_body tells =
    let first = first_lines_are_read Positive after none in (
      record { first = codes "+OK" ++ after; body = None },
      is ∙ sym (append-nil (said (codes "+OK" ++ after))),
      (
        record {
          rest = without_space after;
          line = first.0;
          short = omega (arith, short);
          positive = first.1;
          fits = fits;
          body = no_body;
        },
        tells first.1,
      ),
    )

-- a row is short
row_length : (k : ℕ) (rest : List ℕ) → k ≤ 4294967295 → length rest ≤ 70 → length (decimal k ++ codes " " ++ rest) ≤ 81
row_length k rest few short = omega (
  arith,
  length-append (decimal k ++ codes " ") rest,
  length-append (decimal k) (codes " "),
  length-decimal-le 10 k (omega arith) (omega (arith, few)) (omega (arith, few)),
  short,
)

size_length : (size : ℕ) → size < 2 ^ 64 → length (decimal size) ≤ 70
size_length size fits = omega (arith, length-decimal-le 20 size (omega arith) (omega (arith, fits)) fits)

-- a number of messages and one of octets
pub stated : (n : ℕ) (answer : List ℕ) (count total : ℕ) → answer ≡ said (codes "+OK" ++ (32 ∷ scan_row count total)) → count ≡ n
    → n ≤ 100000 → total < 2 ^ 64 → IsGoodAnswer n stat answer
stated n answer count total is same few fits =
    let none : HoldsNoLf (32 ∷ scan_row count total) =
    simp (list_all-append, no_lf_decimal count (omega (arith, same, few)), no_lf_decimal total fits) in
    let short : length (32 ∷ scan_row count total) ≤ 2000 =
    omega (arith, row_length count (decimal total) (omega (arith, same, few)) (size_length total fits)) in
    let read = (scan_rows_are_read count total (omega (arith, same, few)) (omega (arith, fits))).1 in
    plain n stat answer (32 ∷ scan_row count total) is none short (λ gives. (count, total, read, omega (arith, same, few))) refl (λ first. (
      without_space (32 ∷ scan_row count total),
      total,
      first,
      subst (λ (k : ℕ). number_and_size (scan_row count total) ≡ Ok (k, total)) same read,
    ))

-- ---- listings

-- the numbers of messages, from this one on
abbrev numbers_from : ℕ → List Message → List ℕ
numbers_from k [] = []
numbers_from k (m ∷ ms) = k ∷ numbers_from (k + 1) ms

numbers_count : (k : ℕ) (ms : List Message) → length (numbers_from k ms) ≡ length ms
numbers_count k [] = refl
numbers_count k (m ∷ ms) = omega (arith, numbers_count (k + 1) ms)

numbers_at : (k : ℕ) (ms : List Message) (i d : ℕ) → i < length ms → slice_index_or (numbers_from k ms) i d ≡ k + i
numbers_at k [] i d less = absurd (omega (arith, less))
numbers_at k (m ∷ ms) zero d less = omega arith
numbers_at k (m ∷ ms) (suc i) d less = omega (arith, numbers_at (k + 1) ms i d (omega (arith, less)))

numbering : (ms : List Message) → IsNumbering (length ms) (numbers_from 1 ms)
numbering ms = record {
  complete = λ number some few. (
    number - 1,
    omega (arith, some, few, numbers_count 1 ms),
    omega (arith, some, numbers_at 1 ms (number - 1) number (omega (arith, some, few))),
  );
  distinct = λ i j d less within same. absurd (omega (
    arith,
    less,
    within,
    same,
    numbers_count 1 ms,
    numbers_at 1 ms i d (omega (arith, less, within, numbers_count 1 ms)),
    numbers_at 1 ms j d (omega (arith, within, numbers_count 1 ms)),
  ));
  within = λ i d inside.
      let here = numbers_at 1 ms i d (omega (arith, inside, numbers_count 1 ms)) in
      (omega (arith, here), omega (arith, here, inside, numbers_count 1 ms));
}

pub first_is_same : {A B E : Type 0} (a c : A) (b d : B) → ◌≡◌ {A = Result (A × B) E} (Ok (a, b)) (Ok (c, d)) → a ≡ c
first_is_same {A} {B} a c b d e = let same : (a, b) ≡ (c, d) = cc in ap (λ (x : A × B). x.0) same

-- the lines of unmarked rows
record Lines {R : Type 0} (turn : Turn) (IsThisRow : List ℕ → R → Type 0) (number : R → ℕ) (k : ℕ) (ms : List Message)
    (bytes : List ℕ) : Type 0 where
  lines : List (List ℕ)
  is : bytes ≡ flat_map ended lines
  content : AllByRecursion IsContent lines
  short : AllByRecursion IsShort lines
  rows : AllByRecursion (IsListingRow turn) lines
  counted : length lines ≡ length ms
  numbered : (rs : List R) → AllZip IsThisRow lines rs → map number rs ≡ numbers_from k ms

module _ {R : Type 0} (turn : Turn) (IsThisRow : List ℕ → R → Type 0) (number : R → ℕ) (line : ℕ → MessageRow → List ℕ) where
  -- a line that stands for a row of this listing
  abbrev IsGoodLine : Type 0
  IsGoodLine = (k : ℕ) (m : Message) → k ≤ 4294967295 → IsServed m
      → IsContent (line k (message_row m)) × IsShort (line k (message_row m)) × IsListingRow turn (line k (message_row m))
      × ((row : R) → IsThisRow (line k (message_row m)) row → number row ≡ k)

  rows_good : IsGoodLine → (k : ℕ) (ms : List Message) → k + length ms ≤ 4294967296 → AllByRecursion IsServed ms
      → Lines turn IsThisRow number k ms (lines_from line k (map message_row ms))
  rows_good good k [] few all = record { lines = []; is = refl; content = tt; short = tt; rows = tt; counted = refl; numbered = none }
    where
      none : (rs : List R) → AllZip IsThisRow [] rs → map number rs ≡ []
      none [] are = refl
      none (row ∷ rs) never = absurd never
  rows_good good k (m ∷ ms) few all =
      let one = good k m (omega (arith, few)) all.0 in
      let more = rows_good good (k + 1) ms (omega (arith, few)) all.1 in
      record {
        lines = line k (message_row m) ∷ more.lines;
        is = ap (λ (l : List ℕ). said (line k (message_row m)) ++ l) more.is;
        content = (one.0, more.content);
        short = (one.1, more.short);
        rows = (one.2, more.rows);
        counted = omega (arith, more.counted);
        numbered = λ rs are. first_row one.3 more.lines more.numbered rs are;
      }
    where
      first_row : ((row : R) → IsThisRow (line k (message_row m)) row → number row ≡ k) → (lines : List (List ℕ))
          → ((rs : List R) → AllZip IsThisRow lines rs → map number rs ≡ numbers_from (k + 1) ms)
          → (rs : List R) → AllZip IsThisRow (line k (message_row m) ∷ lines) rs → map number rs ≡ k ∷ numbers_from (k + 1) ms
      first_row first lines later [] never = absurd never
      first_row first lines later (row ∷ rs) are = ap₂ (λ (x : ℕ) (xs : List ℕ). x ∷ xs) (first row are.0) (later rs are.1)

  -- the reply to UIDL or LIST
  listing_good : IsGoodLine → (answer : List ℕ) (ms : List Message) → AllByRecursion IsServed ms → length ms ≤ 100000
      → answer ≡ listed line (map message_row ms) → gives_count turn ≡ false
      → ((lines : List (List ℕ)) → (length lines ≤ message_limit) × AllByRecursion IsShort lines × AllByRecursion (IsListingRow turn) lines
      → LinesFit turn lines) → ((reply : WholeReply) → AreNumbered IsThisRow number (length ms) reply → Tells (length ms) turn reply)
      → IsGoodAnswer (length ms) turn answer
  listing_good good answer ms all few is no_count fit tells =
      let rows = rows_good good 1 ms (omega (arith, few)) all in
      let first = first_lines_are_read Positive [] refl in
      let reply : WholeReply = record { first = codes "+OK"; body = Some rows.lines } in (
        reply,
        is ∙ append_assoc (codes "+OK" ++ crlf) (lines_from line 1 (map message_row ms)) (ended dot)
            ∙ ap (λ (l : List ℕ). said (codes "+OK") ++ (l ++ ended dot)) rows.is,
        (
          record {
            rest = [];
            line = first.0;
            short = omega arith;
            positive = first.1;
            fits = λ gives. absurd (false≢true (sym no_count ∙ gives));
            body = (rows.content, fit rows.lines (omega (arith, rows.counted, few), rows.short, rows.rows));
          },
          tells reply (rows.lines, refl, λ rs are. rw (rows.numbered rs are) (numbering ms)),
        ),
      )

uid_good : IsGoodLine uidl IsUidLine (λ (row : UidRow). row.number) uid_line
uid_good k m few is =
    let ((line, rest_is), fields_are) = uid_rows_are_read k m.uid few is.is_message.legal in
    let read = ap number_and_id rest_is ∙ fields_are in (
      line,
      omega (arith, row_length k m.uid few (short_id m.uid is.is_message.legal)),
      subst (λ r. IsOk r) (sym read) refl,
      λ r are. first_is_same r.number k r.uid m.uid (sym are ∙ read),
    )

scan_good : IsGoodLine list IsScanLine (λ (row : ScanRow). row.number) scan_line
scan_good k m few is =
    let ((line, rest_is), fields_are) = scan_rows_are_read k m.size few (omega (arith, is.within)) in
    let read = ap number_and_size rest_is ∙ fields_are in (
      line,
      omega (arith, row_length k (decimal m.size) few (size_length m.size (omega (arith, is.within)))),
      subst (λ r. IsOk r) (sym read) refl,
      λ r are. first_is_same r.number k r.size m.size (sym are ∙ read),
    )

pub uids_listed : (answer : List ℕ) (ms : List Message) → AllByRecursion IsServed ms → length ms ≤ 100000
    → answer ≡ listed uid_line (map message_row ms) → IsGoodAnswer (length ms) uidl answer
uids_listed answer ms all few is =
    listing_good uidl IsUidLine (λ (row : UidRow). row.number) uid_line uid_good answer ms all few is refl (λ lines fit. fit)
    (λ reply are. are)

pub sizes_listed : (answer : List ℕ) (ms : List Message) → AllByRecursion IsServed ms → length ms ≤ 100000
    → answer ≡ listed scan_line (map message_row ms) → IsGoodAnswer (length ms) list answer
sizes_listed answer ms all few is =
    listing_good list IsScanLine (λ (row : ScanRow). row.number) scan_line scan_good answer ms all few is refl (λ lines fit. fit)
    (λ reply are. are)

-- ---- a text

pub given : (n number : ℕ) (m : Message) (answer text : List ℕ) → answer ≡ said (octets_line (message_row m)) ++ text_body None text
    → text_body None text ≡ text_body None m.text → m.size ≤ max_size → IsWithin m → IsGoodAnswer n (retr number) answer
given n number m answer text is same small within =
    let body = stuffed_is_body m.text in
    let after = 32 ∷ (decimal m.size ++ codes " octets") in
    let none : HoldsNoLf after = simp (list_all-append, no_lf_decimal m.size (omega (arith, small))) in
    let first = first_lines_are_read Positive after none in (
      record { first = octets_line (message_row m); body = Some body.lines },
      is ∙ ap (λ (l : List ℕ). said (octets_line (message_row m)) ++ l) (same ∙ body.whole),
      (
        record {
          rest = without_space after;
          line = first.0;
          short = omega (arith, length-append (decimal m.size) (codes " octets"), size_length m.size (omega (arith, small)));
          positive = first.1;
          fits = λ gives. absurd (false≢true gives);
          body = (body.content, subst (λ (l : List ℕ). length l ≤ 268435456) body.whole within);
        },
        tt,
      ),
    )
