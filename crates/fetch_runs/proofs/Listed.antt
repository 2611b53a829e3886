-- What was got splits into replies in one way only, so what was read is what an honest server said of its maildrop.
use Rattle.std.{
  proofs.Common.{◌≡◌, ◌-◌, ◌+◌, ◌<◌, ℕ, take_while, List, [], ◌∷◌, ◌++◌, Bool, rules, length, map, get_or, refl, sym, ◌∙◌, ap, arith, Ok},
  proofs.Common.{Result, Option, Contains, inl, inr, append_assoc, Some, None},
  proofs.lemmas.Bool.{cond-true, cond-false, Decides.eqb_tells},
  proofs.lemmas.List.{Splits.slice_split-cons_yes, Sorted.Contains-permutation, ext_get_or, length-map, get_or-map, get_or_default},
  proofs.lemmas.List.{append-nil, append_cancel_left, Elements.{All-from_recursion, recursion_from_All}},
  proofs.lemmas.List.FromFn.{length-enumerate_from, get_or-enumerate_from},
  specs.{List.{All, AllByRecursion, AllZip, HoldsAt, enumerate_from, filter, flat_map}, Char.is_ascii_digit, Str.Parse.digits_value},
}
use Rattle.pop3_wire.{
  specs.declared.{command.Command.{TheVariants.{Stat, Retr, UidlAll, ListAll, User, Pass}, Command}, fault.WireFault.WireFault},
  specs.declared.reply.Status.TheVariants.{Positive, Negative},
  specs.{World.Message, Line.{IsLine, ended, OneLine}, Body.{IsContent, unstuffed}, Reply.{IsFirstLine, without_space, indicator}},
  specs.Fields.{is_space, number_and_size, number_and_id},
  specs.Honest.{SaysAnything, fields, IsUidRow, IsScanRow, UidRowsHaveFields, ScanRowsHaveFields, ListsAll, Grants, no_marks, Reply},
  specs.Honest.Replies,
  specs.Reading.{WholeReply, body_bytes, reply_bytes, HasListing, OneListOfLines, GivesCount, has_body, IsBodyIf, IsReplyTo, OneReading},
  proofs.BodyLemmas.two_statuses,
}
use Rattle.mail_terms.specs.{declared.listing.ScanRow.ScanRow, Listing.{Item, UidRow}}
use Rattle.fetch_runs.specs.{
  Accounts.{item_of, listing_of},
  Sessions.{IsGoodReply, AreGood, AreGranted, HonestIsGranted, IsListed, IsNumbered, Retrieves},
  Below.Below,
}

-- a reply's body is what follows its first line
body_is : OneLine → (reply : WholeReply) (first body : List ℕ) → IsLine reply.first → SaysAnything Positive first
    → reply_bytes reply ≡ first ++ body → body ≡ body_bytes reply.body
body_is one reply _ body line (_, (is_line, said)) whole =
    (one _ _ body (body_bytes reply.body) is_line line (ap (λ l. l ++ body) (sym said) ∙ sym whole)).1

-- ---- texts

pub texts_are_messages : Below → (drop : List Message) (marks : List Bool) (commands : List Command) (replies : List WholeReply)
    (found : List (ℕ × List ℕ)) → AreGood commands replies → AreGranted drop marks commands replies → Retrieves commands replies found
    → AllByRecursion (IsNumbered drop) found
texts_are_messages _ _ _ _ [] _ _ _ found_is = rw found_is tt
texts_are_messages _ _ _ [] (reply ∷ _) _ good _ _ = absurd good
texts_are_messages laws drop _ (Retr _ ∷ commands) (reply ∷ replies) _ good are (text, more, body, is, later) =
    let (first, rest, message, says, whole, there, body', _) = are.1 in
    let same = laws.body (body_bytes reply.body) (body_bytes reply.body) text message.text [] [] body
    (rw (body_is laws.line reply first rest good.0.line says whole) at body') refl in
    rw is ((message, there, same.1), texts_are_messages laws _ _ commands replies _ good.1 are.2 later)
texts_are_messages laws drop _ (_ ∷ commands) (reply ∷ replies) found good are found_is =
    texts_are_messages laws drop are.0 commands replies found good.1 are.2 found_is

-- ---- rows

-- what an honest server says in a row is what is read of it
uid_agrees : UidRowsHaveFields → (row : List ℕ) (q : ℕ × Message) (uid : UidRow) → IsUidRow q row
    → number_and_id row ≡ Ok (uid.number, uid.uid) → (uid.number ≡ q.0) × (uid.uid ≡ q.1.uid)
uid_agrees law row (n, m) uid (word, are, value) e =
    let (word', are', value') = law row uid.number (record { uid = uid.uid; size = 0; text = [] }) e in
    let same = sym are' ∙ are in
    let first : word' ≡ word = cc in
    (sym value' ∙ ap (digits_value 10) first ∙ value, cc)

scan_agrees : ScanRowsHaveFields → (row : List ℕ) (q : ℕ × Message) (scan : ScanRow) → IsScanRow q row
    → number_and_size row ≡ Ok (scan.number, scan.size) → (scan.number ≡ q.0) × (scan.size ≡ q.1.size)
scan_agrees law row (n, m) scan (field, more, (word, are, value), size) e =
    let (field', more', (word', are', value'), size') = law row scan.number (record { uid = []; size = scan.size; text = [] }) e in
    let same = sym are' ∙ are in
    let first : word' ≡ word = cc in
    let second : field' ≡ field = cc in (
      sym value' ∙ ap (digits_value 10) first ∙ value,
      sym size' ∙ ap (λ l. digits_value 10 (take_while is_ascii_digit l)) second ∙ size,
    )

empty_message : Message
empty_message = record { uid = []; size = 0; text = [] }

-- the replies to UIDL and to LIST: how a row is read, its number and value, and what of a message and of an item the value is
module _ {R V : Type 0} (read : List ℕ → Result (ℕ × V) WireFault) (number : R → ℕ) (value : R → V) (of : Message
    → V) (what : Item → V) (IsRow : ℕ × Message → List ℕ → Type 0)
    (agrees : (line : List ℕ) (q : ℕ × Message) (row : R) → IsRow q line → read line ≡ Ok (number row, value row)
    → (number row ≡ q.0) × (value row ≡ of q.1)) (items : List Item) where
  -- a line as the session reads it
  abbrev IsRead : List ℕ → R → Type 0
  IsRead line row = read (unstuffed line) ≡ Ok (number row, value row)

  -- the item of this number has this value
  abbrev Has : ℕ → V → Type 0
  Has n x = HoldsAt (λ (item : Item). what item ≡ x) items (n - 1)

  -- over the same lines
  each_has : (numbered : List (ℕ × Message)) (lines : List (List ℕ)) (rows : List R)
      → AllZip IsRow numbered (map unstuffed lines) → AllZip IsRead lines rows
      → AllByRecursion (λ row. Has (number row) (value row)) rows → AllByRecursion (λ (q : ℕ × Message). Has q.0 (of q.1)) numbered
  each_has [] _ _ h k a = tt
  each_has (q ∷ qs) (line ∷ lines) (row ∷ rows) h k a =
      let same = agrees _ q _ h.0 k.0 in (rw (same.0, same.1) at a.0, each_has qs lines rows h.1 k.1 a.1)
  each_has _ _ _ h k a = search rules

  -- so the item at each place has the value of the message there
  value_at : OneLine → OneListOfLines → (drop : List Message) (marks : List Bool) (reply : WholeReply) (rows : List R)
      → marks ≡ no_marks drop → IsLine reply.first → (listing : HasListing IsRead reply rows) → AllByRecursion IsContent listing.0
      → ListsAll IsRow drop marks (reply_bytes reply) → All (λ row. Has (number row) (value row)) rows → (k : ℕ) → k < length drop
      → what (get_or items k (item_of empty_message)) ≡ of (get_or drop k empty_message)
  value_at one lists drop _ reply rows none line (lines, is, are) content l all k inside =
      let same : l.lines ≡ lines =
      (lists _ _ [] [] l.content content (ap (λ b. b ++ []) (body_is one _ _ _ line l.says l.whole ∙ ap body_bytes is))).0 in
      let (numbered, permuted, said) = l.rows none in
      let each = All-from_recursion _ numbered (each_has _ lines rows (rw same at said) are (recursion_from_All _ rows all)) in
      let q : ℕ × Message = (1 + k, get_or drop k empty_message) in
      let placed = get_or-enumerate_from 1 drop k q inside
      ∙ ap (λ (m : Message). (1 + k, m)) (get_or_default drop k q.1 empty_message inside) in
      let there : Contains (enumerate_from 1 drop) q = (k, omega (arith, inside, length-enumerate_from 1 drop), placed) in
      let c = Contains-permutation (enumerate_from 1 drop) numbered q permuted there in
      let place : 1 + k - 1 ≡ k = omega arith in
      rw (c.2, place) at (each c.0 q c.1 (item_of empty_message))

-- ---- the three replies

-- the space after a status is in no field
fields_without : (after : List ℕ) → fields (without_space after) ≡ fields after
fields_without [] = refl
fields_without (byte ∷ rest) = elim (eqb_tells byte 32) [
  | inl p ↦ ap fields (cond-true _ _ _ p.0) ∙ sym (ap (filter _) (slice_split-cons_yes is_space byte rest p.0))
  | inr p ↦ ap fields (cond-false _ _ _ p.0)
]

-- STAT's count
count_same : OneLine → ScanRowsHaveFields
    → (drop : List Message) (marks next : List Bool) (stat : WholeReply) (count : ℕ) → IsGoodReply Stat stat
    → Grants drop marks Stat (reply_bytes stat) next → marks ≡ no_marks drop → GivesCount stat count → count ≡ length drop
count_same one law _ _ _ stat count good (after, more, (line, said), rows, _) none (rest, size, (after', is, rest_is), read) =
    let first = (one _ _ [] (body_bytes stat.body) line good.line (append-nil (ended (indicator Positive ++ after)) ∙ sym said)).0 in
    let same_after : after ≡ after' = append_cancel_left (indicator Positive) after after' (first ∙ is) in
    let (field', more', (word', are', value'), _) = law rest count (record { uid = []; size = size; text = [] }) read in
    let (word, are, value) = rows none in
    let same : word' ∷ field' ∷ more' ≡ word ∷ more = sym are' ∙ ap fields rest_is ∙ fields_without after'
    ∙ ap fields (sym same_after) ∙ are in
    let number : word' ≡ word = cc in
    sym value' ∙ ap (digits_value 10) number ∙ value

same_item : (i : Item) (m : Message) → i.uid ≡ m.uid → i.size ≡ m.size → i ≡ item_of m
same_item i m p q = λ t. record { uid = p t; size = q t }

-- a joined listing is the maildrop's
pub listing_is_maildrop : Below
    → (drop : List Message) (name word : List ℕ) (commands : List Command) (user pass stat uidl list : WholeReply)
    (replies : List WholeReply) (items : List Item)
    → AreGood (User name ∷ Pass word ∷ Stat ∷ UidlAll ∷ ListAll ∷ commands) (user ∷ pass ∷ stat ∷ uidl ∷ list ∷ replies)
    → AreGranted drop (no_marks drop) (User name ∷ Pass word ∷ Stat ∷ UidlAll ∷ ListAll ∷ commands)
    (user ∷ pass ∷ stat ∷ uidl ∷ list ∷ replies) → IsListed stat uidl list items → items ≡ listing_of drop
listing_is_maildrop laws drop name word commands user pass stat uidl list replies items
    (_, (_, (good_stat, (good_uidl, (good_list, _)))))
    (_, to_user, (marks_in, to_pass, (marks_on, to_stat, (marks_uidl, to_uidl, (_, to_list, _))))) listed =
    let marks : marks_in ≡ no_marks drop = to_pass.1 ∙ to_user.1 in
    let stays : marks_on ≡ no_marks drop = to_stat.4 ∙ marks in
    let total = listed.joined.count
    ∙ count_same laws.line laws.scans drop marks_in marks_on stat listed.count good_stat to_stat marks listed.counts in
    ext_get_or (item_of empty_message) items (listing_of drop) (total ∙ sym (length-map drop item_of)) (λ k l.
    let inside : k < length drop = omega (arith, l, total) in
    same_item (get_or items k (item_of empty_message)) (get_or drop k empty_message)
    (value_at number_and_id (λ row. row.number) (λ row. row.uid) (λ m. m.uid) (λ i. i.uid) IsUidRow
    (uid_agrees laws.uids) items laws.line laws.lines drop marks_on uidl listed.uids stays good_uidl.line
    listed.named (rw listed.named.1 at good_uidl.body) to_uidl.0 listed.joined.ids k inside)
    (value_at number_and_size (λ row. row.number) (λ row. row.size) (λ m. m.size) (λ i. i.size) IsScanRow
    (scan_agrees laws.scans) items laws.line laws.lines drop marks_uidl list listed.sizes (to_uidl.1 ∙ stays) good_list.line
    listed.sized (rw listed.sized.1 at good_list.body) to_list.0 listed.joined.octets k inside)
    ∙ sym (get_or-map item_of drop k empty_message (item_of empty_message) inside))

-- ---- what was got splits into replies in one way only

-- the octets are those of a whole reply to the command
pub record Looks (command : Command) (bytes : List ℕ) : Type 0 where
  pub reply : WholeReply
  pub is : IsReplyTo (Some command) reply
  pub whole : bytes ≡ reply_bytes reply

look : (command : Command) {bytes first body : List ℕ} (lines : Option (List (List ℕ)))
    → IsBodyIf (has_body command) lines → bytes ≡ first ++ body → SaysAnything Positive first → body ≡ body_bytes lines
    → Looks command bytes
look _ lines has whole (after, (line, said)) is = record {
  reply = record { first = indicator Positive ++ after; body = lines };
  is = record { line = line; status = inr ((without_space after, (after, refl, refl)), has) };
  whole = whole ∙ rw (said, is);
}

plain_look : (command : Command) (bytes : List ℕ) → IsBodyIf (has_body command) None → SaysAnything Positive bytes → Looks command bytes
plain_look _ bytes none says = look _ _ none (sym (append-nil bytes)) says refl

-- what a positive reply looks like
looks : (drop : List Message) (marks : List Bool) (command : Command) (bytes : List ℕ) (next : List Bool)
    → Grants drop marks command bytes next → Looks command bytes
looks _ _ UidlAll _ _ g = look _ (Some g.0.lines) g.0.content g.0.whole g.0.says refl
looks _ _ ListAll _ _ g = look _ (Some g.0.lines) g.0.content g.0.whole g.0.says refl
looks _ _ (Retr _) _ _ g = look _ (Some g.6.lines) g.6.content g.4 g.3 g.6.whole
looks _ _ Stat _ _ g = plain_look _ _ tt (g.0, g.2)
looks _ _ _ _ _ g = search (rules, plain_look)

module _ (law : OneReading) (drop : List Message) where
  -- what was read of a reply is what was said
  same_reply : {command : Command} {bytes : List ℕ} (reply : WholeReply) (more tail : List ℕ)
      → (look : Looks command bytes) → IsGoodReply command reply
      → bytes ++ more ≡ reply_bytes reply ++ tail → (look.reply ≡ reply) × (more ≡ tail)
  same_reply {command} reply more tail look good e =
      let same = law (Some command ∷ []) (look.reply ∷ []) (reply ∷ []) more _ (look.is, tt)
      (record { line = good.line; status = inr ((good.rest, good.positive), good.body) }, tt)
      (rw (append-nil, append-nil, ← look.whole) e) in
      ((let are = same.0 in cc), same.1)

  -- a positive reply was granted
  pub granted : (marks : List Bool) (command : Command) (bytes : List ℕ) (next : List Bool) (reply : WholeReply) (more tail : List ℕ)
      → Reply drop marks command bytes next → IsGoodReply command reply → bytes ++ more ≡ reply_bytes reply ++ tail
      → Grants drop marks command (reply_bytes reply) next × (more ≡ tail)
  granted marks command bytes next reply more tail (inl ((after, (line, said)), stays)) good e =
      let refused : Looks command bytes = record {
        reply = record { first = indicator Negative ++ after; body = None };
        is = record { line = line; status = inl ((without_space after, (after, refl, refl)), tt) };
        whole = said ∙ sym (append-nil (ended (indicator Negative ++ after)));
      } in
      let no : IsFirstLine (indicator Negative ++ after) Negative (without_space after) = (after, refl, refl) in
      absurd (two_statuses refl good.positive (rw (ap (λ (r : WholeReply). r.first) (same_reply reply more tail refused good e).0) at no))
  granted marks command bytes next reply more tail (inr grants) good e =
      let look = looks drop marks command bytes next grants in
      let same = same_reply reply more tail look good e in
      (rw (look.whole, same.0) at grants, same.1)

  pub walk : (marks last : List Bool) (commands : List Command) (replies : List WholeReply) (bytes later tail : List ℕ)
      → Replies drop marks commands bytes last → AreGood commands replies
      → bytes ++ later ≡ flat_map reply_bytes replies ++ tail → AreGranted drop marks commands replies
  walk _ _ _ [] _ _ _ _ _ e = tt
  walk _ _ [] (reply ∷ _) _ _ _ _ good e = absurd good
  walk marks last (command ∷ commands) (reply ∷ replies) _ later tail said good e =
      let one = granted _ _ said.0 said.2 reply (said.1 ++ later) (flat_map reply_bytes replies ++ tail) said.4 good.0
      (rw (← append_assoc, ← said.3) (e ∙ append_assoc (reply_bytes reply) (flat_map reply_bytes replies) tail)) in
      (said.2, one.0, walk said.2 last commands replies said.1 later tail said.5 good.1 one.1)

pub honest_is_granted : Below → HonestIsGranted
honest_is_granted laws drop sent _ marks commands replies honest talked =
    let same = laws.commands commands honest.commands sent talked.asked honest.asked in
    let (after, (line, greeting_is)) = honest.greets in
    let behind = laws.line (indicator honest.status ++ after) talked.hello honest.replies
    ((flat_map reply_bytes replies ++ talked.rest) ++ honest.later) line talked.line
    (rw (← greeting_is, honest.begins, talked.whole)
    (append_assoc (ended talked.hello) (flat_map reply_bytes replies ++ talked.rest) honest.later)) in
    rw same (walk laws.reading drop (no_marks _) marks honest.commands replies honest.replies []
    (talked.rest ++ honest.later) honest.replied
    (rw same at talked.good) (rw append-nil (behind.1 ∙ append_assoc (flat_map reply_bytes replies) talked.rest honest.later)))
