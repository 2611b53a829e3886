-- If nothing fails, a session ends, and has stored what it wants.
use Rattle.std.{
  proofs.Common.{◌≡◌, ◌≢◌, ◌<◌, ◌≤◌, ◌+◌, ◌-◌, ◌⊎◌, ℕ, Bool, true, false, List, [], ◌∷◌, ◌++◌, Option, None, Some, Result, Ok, Err, IsOk},
  proofs.Common.{Contains, refl, sym, ap, subst, ◌∙◌, inl, inr, arith, append_assoc, length, length-append, take, zip, map, filter},
  proofs.Math.Seq.take-append-add,
  proofs.lemmas.List.{Concat.flat_map-append, append_cancel_left, append-nil, take-append-le},
  proofs.lemmas.List.Elements.{Contains-append_left, Contains-append_right},
  proofs.lemmas.Bool.{cases_Bool, false≢true},
  specs.List.{AllByRecursion, AllZip, enumerate_from, flat_map},
}
use Rattle.mail_terms.{specs.Listing.{Item, message_limit}, proofs.ListLemmas.{all_front, all_back}}
use Rattle.mail_store.specs.{FileName.is_held, FlatFile.Stored, Mboxrd.entry_of}
use Rattle.rc_file.specs.declared.settings.Settings.{Settings}
use Rattle.fetch_record.specs.{Record.{Loaded, RecordState, Row}, RecordGrowth.OneMeaning}
use Rattle.fetch_rules.specs.{Plan.{fetches, planned, retrieved, step_of}, Wanted.wanted, declared.plans.Step.Step}
use Rattle.pop3_wire.{
  proofs.BodyLemmas.{first_lines, IsLine-front, no_body, one_line, one_list_of_replies, two_statuses},
  specs.{Body.{HasNoBody, IsContent, body_of, dot, text_of}, Line.{crlf, IsLine, ended}, Link.Link, Fields.number_and_size},
  specs.{Place.{Place, at}, Reading.{IsBodyIf, IsReplyTo, WholeReply, body_bytes, gives_body, reply_bytes}},
  specs.Reply.{IsFirstLine, indicator, without_space},
  specs.declared.{command.Command.TheVariants.{UidlAll, ListAll, Retr}, reply.Status.TheVariants.{Negative, Positive}},
}
use Rattle.pop3_client.{
  specs.{Causes.{BeginsPositive, Cause, HasRows, IsOverlong, IsPartOfBody, IsPartOfListing, NextLine}, Texts.body_text},
  specs.{Conversation.{Broke, ConversationsArePaced, Talked}, declared.fault.ClientFault.ClientFault},
  specs.Turns.{asking, IsBody, IsGood, IsListingRow, IsShort, LinesFit, Turn, line_limit, retr, text_limit, turn_bytes},
  proofs.TalkLemmas.by_listing,
}
use Rattle.session_parts.specs.{
  declared.fault.{Cut.Cut, Fault.{Fault, TheVariants.{BadSeen, ListingsDisagree, NoMemory, SeenRefused, StoreRefused}}},
  declared.fault.Why.TheVariants.{Missing, NotMbox, Refused},
  declared.{report.{Outcome.{Outcome, TheVariants.{Ended, Cut as WasCut}}, Report.Report}, tail.Tail.TheVariants.Nothing},
  Fault.fault_of,
  Cuts.{ArePlanned, CausesFault, CutsHaveCauses, Extends, IsMissing, IsUnusable, TurnBroke},
  CarryingOut.tasks_ahead,
  Readiness.SettlesStore,
  Record.{FileReadAs, Misread},
  Store.Brings,
  Served.{HasText, Succeeds, IsStored, IsUsable, GoodSessionsStoreAll, StoresAll},
  Scene.{Scene, Stops},
  Session.{Keeping, LeavesLink, Proceeds, SessionIn, outcome_of},
  Tail.{tail, turns_of_tail as tail_turns},
  Target.{Target, AsFiles, AsEntries, Stores, closed_file, held_flags, odd_in},
  Task.{Done, IsAnswered, Task, deleting, fetching, file_from, files_in, files_of, replies_of, stores, tasks_in, tasks_of, tasks_planned},
  Task.{texts_in, done_texts, turns_in, turns_of},
}
use Rattle.pop3_client.specs.declared.fault.ClientFault.TheVariants as talk

-- ---- a turn whose good reply came didn't break

-- the first octets of a list that is longer
take_past : (n : ℕ) (xs ys : List ℕ) → length xs ≤ n → take n (xs ++ ys) ≡ xs ++ take (n - length xs) ys
take_past n xs ys fits =
    let all : n ≡ length xs + (n - length xs) = omega (arith, fits) in
    cc (take-append-add xs ys (n - length xs))

-- octets that begin with a short line aren't overlong, whatever comes after them
not_overlong : (line more bytes later : List ℕ) → IsShort line → bytes ++ later ≡ ended line ++ more → IsOverlong bytes → ⊥
not_overlong line more bytes later short is over =
    IsLine-front (ended line) (take (line_limit - length (ended line)) more)
    (subst IsLine (sym (take-append-le line_limit bytes later over.1) ∙ ap (take line_limit) is
    ∙ take_past line_limit (ended line) more (omega (arith, short, length-append line crlf))) over.0.none) line [] refl

-- nor do those that begin with what is left of a body of short lines
next_not_overlong : (more : List (List ℕ)) (behind later rest : List ℕ) → AllByRecursion IsShort more
    → behind ++ later ≡ flat_map ended more ++ (ended dot ++ rest) → IsOverlong behind → ⊥
next_not_overlong [] behind later rest short e over = not_overlong dot rest behind later (omega arith) e over
next_not_overlong (line ∷ more) behind later rest short e over =
    not_overlong line (flat_map ended more ++ (ended dot ++ rest)) behind later short.0 (e
    ∙ append_assoc (ended line) (flat_map ended more) (ended dot ++ rest)) over

listing_without : (turn : Turn) (after : List ℕ) → IsPartOfListing turn after → HasNoBody after
listing_without _ after (behind, lines, has, part) =
    no_body _ behind (text_of lines) (record { lines = lines; content = has.content; whole = has.whole; read = refl }) part.0

-- a part of a body holds no body
part_without : (turn : Turn) (after : List ℕ) → IsPartOfBody turn after → HasNoBody after
part_without (Some UidlAll) after p = listing_without _ _ p
part_without (Some ListAll) after p = listing_without _ _ p
part_without (Some (Retr _)) _ p = p.0
part_without _ _ never = absurd never

-- whether nothing is said after a turn broke so
abbrev is_silent : ClientFault → Bool
is_silent (talk.Refused _) = false
is_silent other = true

count_of : {E : Type 0} (a b : ℕ × ℕ) → ◌≡◌ {A = Result (ℕ × ℕ) E} (Ok a) (Ok b) → a.0 ≡ b.0
count_of a b e = let same : a ≡ b = cc in cc

-- what came of a good reply, and what comes after it
module _ (turn : Turn) (reply : WholeReply) (good : IsGood turn reply) (bytes later rest : List ℕ)
    (is : bytes ++ later ≡ reply_bytes reply ++ rest) where
  first_is : bytes ++ later ≡ ended reply.first ++ (body_bytes reply.body ++ rest)
  first_is = is ∙ append_assoc (ended reply.first) (body_bytes reply.body) rest

  -- the first line is the reply's
  same_first : (line after : List ℕ) → IsLine line → bytes ≡ ended line ++ after → (line ≡ reply.first)
      × (after ++ later ≡ body_bytes reply.body ++ rest)
  same_first line after a e = one_line line reply.first (after ++ later) (body_bytes reply.body ++ rest) a good.line
      (cc (append_assoc (ended line) after later, first_is))

  body_begins : (after : List ℕ) → BeginsPositive bytes after → after ++ later ≡ body_bytes reply.body ++ rest
  body_begins after b = (same_first _ _ b.is b.whole).1

  -- the lines of the body
  lines_of : gives_body turn ≡ true → (lines : List (List ℕ)) × (reply.body ≡ Some lines)
      × AllByRecursion IsContent lines × LinesFit turn lines
  lines_of gives = by _ good.body
    where
      by : (body : Option (List (List ℕ))) → IsBody turn body → (lines : List (List ℕ)) × (body ≡ Some lines)
          × AllByRecursion IsContent lines × LinesFit turn lines
      by None none = absurd (false≢true (cc none))
      by (Some lines) fit = (lines, refl, fit.0, fit.1)

  body_begins_with : (after : List ℕ) (lines : List (List ℕ)) → reply.body ≡ Some lines → BeginsPositive bytes after
      → after ++ later ≡ body_of lines ++ rest
  body_begins_with after _ body_is begins = cc (body_begins after begins)

  -- those of a listing are rows, and those that were read are the first of them
  pub record Listing (lines : List (List ℕ)) (behind : List ℕ) : Type 0 where
    pub more : List (List ℕ)
    pub content : AllByRecursion IsContent more
    pub few : length lines + length more ≤ message_limit
    pub short : AllByRecursion IsShort more
    pub rows : AllByRecursion (IsListingRow turn) more
    pub behind_is : behind ++ later ≡ flat_map ended more ++ (ended dot ++ rest)

  listing_of : (after behind : List ℕ) (lines : List (List ℕ)) → BeginsPositive bytes after
      → HasRows turn after behind lines → Listing lines behind
  listing_of after behind lines begins has =
      let (all, body_is, content, fit) = lines_of (by_listing (λ t. gives_body t ≡ true) refl refl turn has.listing) in
      let (few, short, rows) = by_listing (λ t. LinesFit t all → (length all ≤ message_limit)
      × AllByRecursion IsShort all × AllByRecursion (IsListingRow t) all) (λ f. f) (λ f. f) turn has.listing fit in
      let (more, are, all_is, behind_is) = first_lines lines (behind ++ later) all rest has.content content
      (sym (append_assoc (flat_map ended lines) behind later) ∙ ap (λ (l : List ℕ). l ++ later) (sym has.whole)
      ∙ body_begins_with after all body_is begins ∙ append_assoc (flat_map ended all) (ended dot) rest) in
      record {
        more = more;
        content = are;
        few = omega (arith, few, ap (λ (l : List (List ℕ)). length l) all_is, length-append lines more);
        short = all_back IsShort lines more (subst (AllByRecursion IsShort) all_is short);
        rows = all_back (IsListingRow turn) lines more (subst (AllByRecursion (IsListingRow turn)) all_is rows);
        behind_is = behind_is;
      }

  -- the next line is a row, and no more than the limit
  row_next : (row : List ℕ) (rows : ℕ) → NextLine turn bytes row rows → IsListingRow turn row × (rows < message_limit)
  row_next row rows (after, begins, next) =
      let listing = listing_of after (ended row ++ next.behind) next.lines begins next.has in
      let first = first_lines (row ∷ []) (next.behind ++ later) listing.more rest (next.content, tt) listing.content
      (ap (λ (l : List ℕ). l ++ (next.behind ++ later)) (append-nil (ended row))
      ∙ sym (append_assoc (ended row) next.behind later) ∙ listing.behind_is) in (
        (subst (AllByRecursion (IsListingRow turn)) first.2 listing.rows).0,
        omega (arith, listing.few, next.count, ap (λ (l : List (List ℕ)). length l) first.2),
      )

  part_gives : (after : List ℕ) → IsPartOfBody turn after → gives_body turn ≡ true
  part_gives after part = by _ part
    where
      by : (t : Turn) → IsPartOfBody t after → gives_body t ≡ true
      by (Some UidlAll) p = refl
      by (Some ListAll) p = refl
      by (Some (Retr _)) p = refl
      by _ never = absurd never

  no_cause : (why : ClientFault) (old new : Link) → (is_silent why ≡ true → new.failures ≡ old.failures)
      → (is_silent why ≡ true → new.ended ≡ true → later ≡ []) → Cause why turn old new bytes → why ≡ talk.NoMemory
  no_cause talk.ConnectionEnded old new none all (ended_is, inl part) =
      absurd (part.0 reply.first (body_bytes reply.body ++ rest) (sym (append-nil bytes)
      ∙ (rw (all refl ended_is) at first_is) ∙ append_assoc reply.first crlf (body_bytes reply.body ++ rest)))
  no_cause talk.ConnectionEnded old new none all (ended_is, inr (after, begins, part)) =
      let (lines, body_is, content, fit) = lines_of (part_gives after part) in
      absurd (part_without turn after part (body_of lines) (text_of lines) rest
      (record { lines = lines; content = content; whole = refl; read = refl })
      (sym (append-nil after) ∙ (rw (all refl ended_is) at body_begins_with after lines body_is begins)))
  no_cause talk.ReadFailed old new none all risen = absurd (omega (arith, none refl, risen))
  no_cause talk.WriteFailed old new none all never = absurd never
  no_cause talk.ReplyTooLong old new none all (inl over) =
      absurd (not_overlong reply.first (body_bytes reply.body ++ rest) bytes later good.short first_is over)
  no_cause talk.ReplyTooLong old new none all (inr (after, behind, lines, begins, has, over)) =
      let listing = listing_of after behind lines begins has in
      absurd (next_not_overlong listing.more behind later rest listing.short listing.behind_is over)
  no_cause talk.BadReply old new none all (line, first, not_negative, not_positive) =
      let same = (same_first line first.after first.is first.whole).0 in
      let (gives, bad) = not_positive good.rest (rw same good.positive) in
      absurd (bad (subst (λ r. IsOk r) (sym (good.fits gives).2) refl))
  no_cause (talk.Refused to) old new none all (names, (line, more, first, negative)) =
      absurd (two_statuses refl good.positive (subst (λ (l : List ℕ). IsFirstLine l Negative more)
      (same_first line first.after first.is first.whole).0 negative))
  no_cause talk.BadListing old new none all (row, rows, next, few, bad) = absurd (bad (row_next row rows next).0)
  no_cause talk.ListingsDisagree old new none all never = absurd never
  no_cause talk.TooMany old new none all (inl (gives, (line, more, count, size, first, positive, counts, over))) =
      let same = (same_first line first.after first.is first.whole).0 in
      let rest_is : more ≡ good.rest = positive.2
      ∙ ap without_space (append_cancel_left (indicator Positive) positive.0 good.positive.0 (sym positive.1 ∙ same
      ∙ good.positive.1)) ∙ sym good.positive.2 in
      let (n, octets, is_n, few) = good.fits gives in
      absurd (omega (arith, over, few, count_of (count, size) (n, octets) (sym counts ∙ ap number_and_size rest_is ∙ is_n)))
  no_cause talk.TooMany old new none all (inr (row, next)) = absurd (omega (arith, (row_next row message_limit next).1))
  no_cause talk.TextTooLong old new none all ((number, is_retr), (after, begins, none_there, long)) =
      let (lines, body_is, content, fit) = lines_of (rw is_retr refl) in
      let fits : length (body_of lines) ≤ text_limit = subst (λ (t : Turn). LinesFit t lines) is_retr fit in
      absurd (none_there (body_of lines) (text_of lines) (take (text_limit - length (body_of lines)) rest)
      (record { lines = lines; content = content; whole = refl; read = refl }) (sym (take-append-le text_limit after later long)
      ∙ ap (take text_limit) (body_begins_with after lines body_is begins) ∙ take_past text_limit (body_of lines) rest fits))
  no_cause talk.NoMemory old new none all cause = refl

-- a good reply is one that a client reads
reads_body : (turn : Turn) (body : Option (List (List ℕ))) → IsBody turn body → IsBodyIf (gives_body turn) body
reads_body _ None none = rw none tt
reads_body (Some UidlAll) (Some _) is = is.0
reads_body (Some ListAll) (Some _) is = is.0
reads_body (Some (Retr _)) (Some _) is = is.0
reads_body _ (Some _) is = absurd is.1

pub reads_all : (turns : List Turn) (replies : List WholeReply) → AllZip IsGood turns replies → AllZip IsReplyTo turns replies
reads_all [] [] _ = tt
reads_all (turn ∷ turns) (reply ∷ replies) good = (
  record {
    line = good.0.line;
    status = inr ((good.0.rest, good.0.positive), reads_body _ _ good.0.body);
  },
  reads_all turns replies good.1,
)
reads_all _ _ never = absurd never

-- the reply to the last of some turns
last_of : (turns : List Turn) (turn : Turn) (replies : List WholeReply) → AllZip IsGood (turns ++ turn ∷ []) replies
    → (front : List WholeReply) × (reply : WholeReply) × (replies ≡ front ++ reply ∷ []) × AllZip IsGood turns front × IsGood turn reply
last_of [] _ (reply ∷ []) good = ([], reply, refl, tt, good.0)
last_of (_ ∷ turns) turn (reply ∷ replies) good =
    let (front, last, is, goods, one) = last_of turns _ replies good.1 in
    (reply ∷ front, last, ap (λ (rs : List WholeReply). reply ∷ rs) is, (good.0, goods), one)
last_of [] _ (_ ∷ other ∷ _) never = absurd never.1
last_of _ _ _ never = absurd never

last_apart : {A : Type 0} (f : A → List ℕ) (front : List A) (last : A) (rest : List ℕ)
    → flat_map f (front ++ last ∷ []) ++ rest ≡ flat_map f front ++ (f last ++ rest)
last_apart f _ _ _ = simp (flat_map-append, append_assoc, append-nil)

-- ---- after a cut by a turn the link goes on; with nothing to say it stays as it is

abbrev is_store : Fault → Bool
is_store (StoreRefused _) = true
is_store other = false

-- only a text that the store refused is left under way
rest_stopped : (target : Target) (next : Task) (old new : Scene) (cut : Cut) → Stops target next old cut new
    → (cut.rest ≡ None) ⊎ (is_store cut.fault ≡ true)
rest_stopped _ _ _ _ _ (inl broken) = inl broken.none
rest_stopped (AsFiles _) _ _ _ _ (inr (inl not)) = inr (elim not.refuses [ inl missing ↦ cc | inr refused ↦ cc ])
rest_stopped AsEntries _ _ _ _ (inr (inl (inl room))) = inl room.none
rest_stopped AsEntries _ _ _ _ (inr (inl (inr (inl not)))) = inl not.none
rest_stopped AsEntries _ _ _ _ (inr (inl (inr (inr left)))) = inl left.none
rest_stopped (AsFiles _) _ _ _ _ (inr (inr not)) = inl not.none
rest_stopped AsEntries _ _ _ _ (inr (inr not)) = inl not.none

by_client : (why : ClientFault) → (is_store (fault_of why) ≡ false) × (is_silent why ≡ true → tail (fault_of why) ≡ Nothing)
by_client (talk.Refused _) = (refl, λ silent. absurd (false≢true silent))
by_client _ = (refl, λ _. refl)

-- ---- nothing fails, so the session ends

usable_is_there : (target : Target) (store : Stores) → IsUsable target store → IsMissing target store → ⊥
usable_is_there (AsFiles _) store (tmp, new, cur) (inl none) = false≢true (sym none ∙ tmp)
usable_is_there (AsFiles _) store (tmp, new, cur) (inr (inl none)) = false≢true (sym none ∙ new)
usable_is_there (AsFiles _) store (tmp, new, cur) (inr (inr none)) = false≢true (sym none ∙ cur)
usable_is_there AsEntries store (bytes, is, may) none = cc

usable_goes_on : (target : Target) (store : Stores) → IsUsable target store → IsUnusable target store → ⊥
usable_goes_on (AsFiles _) store usable never = never
usable_goes_on AsEntries store (bytes, is, may) (was, was_is, not) =
    let same : was ≡ bytes = cc in
    not (rw same may)

extends_on : (old mid new : Link) → Extends old mid → Extends mid new → Extends old new
extends_on old _ _ first later = record {
  said = first.said ++ later.said;
  gained = first.gained ++ later.gained;
  sent = later.sent ∙ ap (λ (l : List ℕ). l ++ later.said) first.sent ∙ append_assoc old.sent first.said later.said;
  got = later.got ∙ ap (λ (l : List ℕ). l ++ later.gained) first.got ∙ append_assoc old.got first.gained later.gained;
}

-- a session that was cut didn't end, and was cut by one fault
cut_not_ended : (fault : Fault) → Ended ≡ WasCut fault → ⊥
cut_not_ended fault is = cc

same_fault : (a b : Fault) → WasCut a ≡ WasCut b → a ≡ b
same_fault a b is = cc

-- bytes that stand for a record aren't misread
not_misread : OneMeaning → (old : Stored) (loaded : Loaded) (line : ℕ) (new : Stored) → FileReadAs old.content loaded
    → Misread old line new → ⊥
not_misread one old loaded line new reads (_, means, _, _) = cc (one _ _ _ reads.means means)

sent_apart : (sent : List ℕ) (turns : List Turn) (next : Turn) (said : List ℕ)
    → ((sent ++ asking turns) ++ turn_bytes next) ++ said ≡ sent ++ (asking (turns ++ next ∷ []) ++ said)
sent_apart sent turns next said = simp (flat_map-append, append_assoc, append-nil)

five_joined : (a b c d e : List ℕ) → (((a ++ b) ++ c) ++ d) ++ e ≡ a ++ (b ++ (c ++ (d ++ e)))
five_joined a b c d e = simp append_assoc

module _ (paced : ConversationsArePaced) (settings : Settings) (target : Target) (now : ℕ) (link : Link) (before : Keeping)
    (report : Report) (link' : Link) (after : Keeping) (done : SessionIn settings target now link before report link' after) where
  open done use {mid}

  -- nothing is said after a fault of the link, unless a reply was negative
  left_on : (fault : Fault) → report.outcome ≡ WasCut fault → is_store fault ≡ false
      → Extends mid.link link' × (tail fault ≡ Nothing → link' ≡ mid.link)
  left_on fault is other = by done.result done.proceeds done.leaves done.reports.outcome_is
    where
      rest_of : (cut : Cut) → Proceeds settings target now (at link []) before (Err cut) mid after done.notes
          → (cut.rest ≡ None) ⊎ (is_store cut.fault ≡ true)
      rest_of cut (inl not) = inl (ap (λ (c : Cut). c.rest) not.is)
      rest_of cut (inr (inl room)) = inl (ap (λ (c : Cut). c.rest) room.is)
      rest_of cut (inr (inr dealt)) = elim dealt.carries.1 [
        | inl un ↦ inl un.1.none
        | inr carried ↦ rest_stopped _ _ _ _ _ carried.does.stops
      ]

      by : (result : Result (Unit {0}) Cut) → Proceeds settings target now (at link []) before result mid after done.notes
          → LeavesLink result mid link' → report.outcome ≡ outcome_of result
          → Extends mid.link link' × (tail fault ≡ Nothing → link' ≡ mid.link)
      by (Ok unit) proceeds leaves outcome = absurd (cut_not_ended fault (sym outcome ∙ is))
      by (Err cut) proceeds (new, left, link_is) outcome =
          let same = same_fault cut.fault fault (sym outcome ∙ is) in
          elim (rest_of cut proceeds) [
            | inl none ↦
                let said = rw none at left in
                let p = paced (tail_turns (tail cut.fault)) mid new said.0 said.1 in (
                  rw link_is (record { said = asking p.done ++ p.part; gained = p.gained; sent = p.sent; got = p.got }),
                  λ quiet. link_is ∙ ap (λ (p : Place). p.link) (said.2 (ap tail same ∙ quiet)),
                )
            | inr store ↦ absurd (false≢true (sym other ∙ ap is_store (sym same) ∙ store))
          ]

  planned_on : (old new : Link) (turns : List Turn) → Extends old new → ArePlanned settings target now link before old turns
      → ArePlanned settings target now link before new turns
  planned_on _ _ _ more (inl is) = inl is
  planned_on old new _ more (inr (items, place, enters, first, by)) = inr (items, place, enters, extends_on _ _ _ first more, by)

  module _ (one : OneMeaning) (served : Succeeds settings target now link before report link' after) where
    -- a turn that broke, if the link gives a good reply to it, broke for want of memory
    only_memory : (turns : List Turn) (replies : List WholeReply) (next : Turn) (later : List Turn) (old : Place)
        → ArePlanned settings target now link before old.link (turns ++ next ∷ later) → Talked turns replies (at link []) old
        → (why : ClientFault) → Extends mid.link link' → (is_silent why ≡ true → link' ≡ mid.link)
        → Broke next old mid why → why ≡ talk.NoMemory
    only_memory turns replies next later old planned talked why on stays broke = by broke
      where
        none : is_silent why ≡ true → mid.link.failures ≡ old.link.failures
        none silent = ap (λ (l : Link). l.failures) (sym (stays silent)) ∙ served.link_refused ∙ sym talked.goes_on.failures

        all_came : (rest : List ℕ) → (link'.ended ≡ true → rest ≡ []) → is_silent why ≡ true → mid.link.ended ≡ true
            → on.gained ++ rest ≡ []
        all_came rest none_left silent ended_is =
            let nothing : on.gained ≡ [] = append_cancel_left mid.link.got on.gained [] (sym on.got
            ∙ ap (λ (l : Link). l.got) (stays silent) ∙ sym (append-nil mid.link.got)) in
            rw (nothing, none_left (ap (λ (l : Link). l.ended) (stays silent) ∙ ended_is)) refl

        by : Broke next old mid why → why ≡ talk.NoMemory
        by (inl (is, part)) = absurd (omega (arith, part.risen, none (ap is_silent is)))
        by (inr (inl not)) =
            let sent_is : link'.sent ≡ link.sent ++ (asking (turns ++ next ∷ []) ++ on.said) = on.sent
            ∙ ap (λ (l : List ℕ). l ++ on.said) (not.sent ∙ ap (λ (l : List ℕ). l ++ turn_bytes next) talked.sent)
            ∙ sent_apart link.sent turns next on.said in
            let here : Extends old.link mid.link = record { said = turn_bytes next; gained = not.gained; sent = not.sent; got = not.got } in
            let was = served.answered (turns ++ next ∷ []) later on.said (rw (append_assoc turns (next ∷ []) later)
            (planned_on old.link link' (turns ++ next ∷ later) (extends_on old.link mid.link link' here on) planned)) sent_is in
            let (front, reply, replies_are, goods, good) = last_of turns next was.replies was.good in
            let after = not.gained ++ (on.gained ++ was.later) in
            let got_is : link'.got ++ was.later ≡ link.got ++ (talked.gained ++ after) =
            ap (λ (l : List ℕ). l ++ was.later) (on.got
            ∙ ap (λ (l : List ℕ). l ++ on.gained) (not.got ∙ ap (λ (l : List ℕ). l ++ not.gained) talked.got))
            ∙ five_joined link.got talked.gained not.gained on.gained was.later in
            let all : talked.gained ++ after ≡ flat_map reply_bytes was.replies ++ was.rest =
            append_cancel_left link.got _ _ (sym got_is ∙ was.whole) in
            let last : flat_map reply_bytes (front ++ reply ∷ []) ++ was.rest ≡ flat_map reply_bytes front
            ++ (reply_bytes reply ++ was.rest) = last_apart reply_bytes front reply was.rest in
            let read = one_list_of_replies turns replies front (old.waiting ++ after) (reply_bytes reply ++ was.rest)
            (reads_all turns replies talked.good) (reads_all turns front goods)
            (sym (append_assoc (flat_map reply_bytes replies) old.waiting after) ∙ ap (λ (l : List ℕ). l ++ after) (sym talked.heard) ∙ all
            ∙ ap (λ (rs : List WholeReply). flat_map reply_bytes rs ++ was.rest) replies_are ∙ last) in
            no_cause next reply good (old.waiting ++ not.gained) (on.gained ++ was.later) was.rest
            (append_assoc old.waiting not.gained (on.gained ++ was.later) ∙ read.1) why old.link mid.link none
            (all_came was.later was.none_left) not.cause
        by (inr (inr (is, may, same))) = is

    not_cut : (fault : Fault) → report.outcome ≡ WasCut fault → CausesFault settings target now link before fault mid after → ⊥
    not_cut fault is = by fault (λ same. served.memory (is ∙ ap (λ (f : Fault). WasCut f) same)) (left_on fault is)
      where
        memory : (fault : Fault) → (is_store fault ≡ false → Extends mid.link link' × (tail fault ≡ Nothing → link' ≡ mid.link))
            → TurnBroke settings target now link before mid fault → fault ≡ NoMemory
        memory fault left broke =
            let (why, fault_is, broken) = broke.broke in
            let (no_store, quiet) = by_client why in
            let on = left (ap is_store fault_is ∙ no_store) in
            fault_is ∙ ap fault_of (only_memory broke.turns broke.replies broke.next broke.later broke.mid broke.planned
            broke.talked why on.0 (λ silent. on.1 (ap tail fault_is ∙ quiet silent)) broken)

        by : (fault : Fault) → fault ≢ NoMemory
            → (is_store fault ≡ false → Extends mid.link link' × (tail fault ≡ Nothing → link' ≡ mid.link))
            → CausesFault settings target now link before fault mid after → ⊥
        by (StoreRefused Missing) other left cause = usable_is_there target after.store served.usable cause
        by (StoreRefused Refused) other left cause = omega (arith, cause, served.store_refused)
        by (StoreRefused NotMbox) other left cause = usable_goes_on target after.store served.usable cause
        by SeenRefused other left cause = omega (arith, cause, served.file_refused)
        by (BadSeen line) other left cause = not_misread one before.file served.read.0 line after.file served.read.1 cause
        by ListingsDisagree other left cause =
            cause.disagree (served.agree cause.count cause.uids cause.sizes mid (left refl).0 cause.opened)
        by NoMemory other left cause = other refl
        by fault other left cause = other (memory fault left cause)

-- ---- a session that ended has stored what it wants

zip_turns : (xs ys : List Turn) (ls ms : List WholeReply) → AllZip IsGood xs ls → zip (xs ++ ys) (ls ++ ms) ≡ zip xs ls ++ zip ys ms
zip_turns [] _ [] _ _ = refl
zip_turns [] _ (l ∷ _) _ never = absurd never
zip_turns (x ∷ _) _ [] _ never = absurd never
zip_turns (x ∷ xs) ys (l ∷ ls) ms good = cc (zip_turns xs ys ls ms good.1)

-- of what tasks bring: the task that stores a text was answered by a reply, of whose text this holds
abbrev Did : (Turn × WholeReply → Type 0) → (List ℕ → WholeReply → Type 0) → Task → Type 0
Did Said Has (stores number uid) = (reply : WholeReply) × Said (retr number, reply) × Has uid reply
Did Said Has _ = Unit {0}

module _ {X : Type 0} (brings : Task → List WholeReply → List X) (made : List ℕ → WholeReply → X)
    (first : (number : ℕ) (uid : List ℕ) (reply : WholeReply) (replies : List WholeReply)
    → Contains (brings (stores number uid) (reply ∷ replies)) (made uid reply))
    (Said : Turn × WholeReply → Type 0) (Has : X → Type 0) where
  abbrev brought_by : List Done → List X
  brought_by dones = flat_map (λ (d : Done). brings d.task d.replies) dones

  one_did : (task : Task) (replies : List WholeReply) → AllZip IsGood (turns_in task) replies
      → ((p : Turn × WholeReply) → Contains (zip (turns_in task) replies) p → Said p)
      → ((x : X) → Contains (brings task replies) x → Has x) → Did Said (λ uid reply. Has (made uid reply)) task
  one_did (stores number uid) [] never said has = absurd never
  one_did (stores number uid) (reply ∷ replies) good said has =
      (reply, said (retr number, reply) (0, omega arith, refl), has (made uid reply) (first number uid reply replies))
  one_did other replies good said has = tt

  all_did : (dones : List Done) → AllByRecursion IsAnswered dones
      → ((p : Turn × WholeReply) → Contains (zip (turns_of dones) (replies_of dones)) p → Said p)
      → ((x : X) → Contains (brought_by dones) x → Has x) → AllByRecursion (Did Said (λ uid reply. Has (made uid reply))) (tasks_of dones)
  all_did [] each said has = tt
  all_did (done ∷ dones) each said has =
      let on = zip_turns (turns_in done.task) (turns_of dones) done.replies (replies_of dones) each.0 in (
        one_did done.task done.replies each.0 (λ p there. said p (subst (λ (ps : List (Turn × WholeReply)). Contains ps p) (sym on)
            (Contains-append_left (zip (turns_in done.task) done.replies) (zip (turns_of dones) (replies_of dones)) p there)))
            (λ x there. has x (Contains-append_left (brings done.task done.replies) (brought_by dones) x there)),
        all_did dones each.1 (λ p there. said p (subst (λ (ps : List (Turn × WholeReply)). Contains ps p) (sym on)
            (Contains-append_right (zip (turns_in done.task) done.replies) (zip (turns_of dones) (replies_of dones)) p there)))
            (λ x there. has x (Contains-append_right (brings done.task done.replies) (brought_by dones) x there)),
      )

-- what holds of the tasks that are planned, of the messages that they fetch
module _ (is_there : Item → Bool) (D : Task → Type 0) (P : ℕ × Item → Type 0) (step : ℕ × Item → Step)
    (same : (message : ℕ × Item) → (step message).number ≡ message.0)
    (so : (number : ℕ) (item : Item) → AllByRecursion D (fetching true (is_there item) number item.uid item.size) → P (number, item)) where
  abbrev fetched_from : ℕ → List Item → List (ℕ × Item)
  fetched_from k items = map (λ (pair : Step × (ℕ × Item)). pair.1) (filter (λ (pair : Step × (ℕ × Item)). fetches pair.0)
      (zip (map step (enumerate_from k items)) (enumerate_from k items)))

  each_fetched : (k : ℕ) (items : List Item)
      → AllByRecursion D (tasks_planned (map step (enumerate_from k items)) items (map is_there items))
      → AllByRecursion P (fetched_from k items)
  each_fetched k [] all = tt
  each_fetched k (item ∷ items) all =
      let rest = tasks_planned (map step (enumerate_from (k + 1) items)) items (map is_there items) in
      let fetch = all_front D (fetching (fetches (step (k, item))) (is_there item) (step (k, item)).number item.uid
      item.size) (deleting (step (k, item)).delete (step (k, item)).number)
      (all_front D (tasks_in (step (k, item)) item (is_there item)) rest all) in
      let later = each_fetched (k + 1) items (all_back D (tasks_in (step (k, item)) item (is_there item)) rest all) in
      elim (cases_Bool (fetches (step (k, item)))) [
        | inl hit ↦ rw hit (so k item (rw (hit, same (k, item)) at fetch), later)
        | inr miss ↦ rw miss later
      ]

-- whether a message is held goes by itself
flags_by : (target : Target) (store : Stores) (items : List Item) → (is_there : Item → Bool)
    × ((item : Item) → held_flags target store (item ∷ []) ≡ is_there item ∷ []) × (held_flags target store items ≡ map is_there items)
flags_by (AsFiles account) store _ = ((λ item. is_held account store.maildir item.uid), (λ item. refl), refl)
flags_by AsEntries _ _ = ((λ item. false), (λ item. refl), refl)

module _ (settings : Settings) (target : Target) (items : List Item) (now : ℕ) (store : Stores) (rows : List Row)
    (said : List (Turn × WholeReply)) (new : Stores) where
  -- by what its task did
  stored_by : (is_there : Item → Bool) → ((item : Item) → held_flags target store (item ∷ []) ≡ is_there item ∷ [])
      → (number : ℕ) (item : Item) → AllByRecursion (Did (Contains said) (HasText target new))
      (fetching true (is_there item) number item.uid item.size) → IsStored target store said new (number, item)
  stored_by is_there flags _ item did = elim (cases_Bool (is_there item)) [
    | inl held ↦ inl (flags item ∙ rw held refl)
    | inr not ↦ inr (rw not at did).0
  ]

  each_stored : AllByRecursion (Did (Contains said) (HasText target new)) (tasks_ahead settings target items now store rows)
      → AllByRecursion (IsStored target store said new) (retrieved (planned settings (odd_in target store) rows items now) items)
  each_stored did =
      let (is_there, one, all) = flags_by target store items in
      each_fetched is_there _ (IsStored target store said new) (step_of settings (odd_in target store) rows items now)
      (λ _. refl) (stored_by is_there one) 1 items (all_front _ _ _ (rw all at did))

-- what the tasks brought is there
all_brought : (target : Target) (was : RecordState) (items : List Item) (old mid new : Stores) (dones : List Done)
    → SettlesStore target was items old mid → Brings target dones mid new → AllByRecursion IsAnswered dones
    → AllByRecursion (Did (Contains (zip (turns_of dones) (replies_of dones))) (HasText target new)) (tasks_of dones)
all_brought (AsFiles account) was items old mid new dones settles brings each =
    all_did (files_in account) (file_from account) (λ number uid reply replies. (0, omega arith, refl))
    (Contains (zip (turns_of dones) (replies_of dones))) (Contains new.maildir.files) dones each (λ p there. there)
    (λ f there. rw brings.came (Contains-append_right mid.maildir.files (files_of account dones) f there))
all_brought AsEntries was items old mid new dones (bytes, there_is, same, may) brings each =
    all_did texts_in (λ uid reply. body_text reply.body) (λ number uid reply replies. (0, omega arith, refl))
    (Contains (zip (turns_of dones) (replies_of dones)))
    (λ text. (was : List ℕ) × (texts : List (List ℕ)) × (new.mbox.content ≡ Some (was ++ flat_map entry_of texts))
    × Contains texts text) dones each (λ p there. there)
    (λ text there. (closed_file was.intent items bytes, done_texts dones, brings.content ∙ rw same refl, there))

pub store_all : CutsHaveCauses → ConversationsArePaced → OneMeaning
    → ((settings : Settings) (is_odd : List ℕ → Bool) (rows : List Row) (listing : List Item) (now : ℕ)
    → retrieved (planned settings is_odd rows listing now) listing ≡ wanted settings is_odd rows listing) → GoodSessionsStoreAll
store_all causes paced one fetch_wanted settings target now link before report link' after done = (
  λ served. by_outcome served report.outcome refl,
  λ ended. by_result ended done.result done.proceeds done.leaves done.reports.outcome_is,
)
  where
    by_outcome : Succeeds settings target now link before report link' after → (outcome : Outcome)
        → report.outcome ≡ outcome → report.outcome ≡ Ended
    by_outcome served Ended is = is
    by_outcome served (WasCut fault) is =
        absurd (not_cut paced settings target now link before report link' after done one served fault is
        (causes settings target now link before report link' after done fault is))

    by_result : report.outcome ≡ Ended → (result : Result (Unit {0}) Cut)
        → Proceeds settings target now (at link []) before result done.mid after done.notes
        → LeavesLink result done.mid link' → report.outcome ≡ outcome_of result → StoresAll settings target now link before link' after
    by_result ended (Ok unit) dealt last is =
        let carried = dealt.carries.1 in
        let all = carried.does in
        let said = zip (turns_of all.dones) (replies_of all.dones) in
        record {
          items = dealt.items;
          mid = dealt.mid;
          listed = dealt.enters;
          was = carried.prepared.was;
          stood = carried.prepared.stood;
          turns = turns_of all.dones;
          replies = replies_of all.dones;
          new = done.mid;
          last = last;
          talked = rw carried.prepared.place_is at all.went.talked;
          each = subst (λ (rs : List Row). AllByRecursion (IsStored target before.store said after.store)
              (wanted settings (odd_in target before.store) rs dealt.items)) carried.prepared.rows
              (subst (AllByRecursion (IsStored target before.store said after.store))
              (fetch_wanted settings (odd_in target before.store) carried.mid.rows dealt.items now)
              (each_stored settings target dealt.items now before.store carried.mid.rows said after.store
              (subst (AllByRecursion (Did (Contains said) (HasText target after.store))) (sym all.all)
              (all_brought target carried.prepared.was dealt.items before.store carried.mid.store after.store all.dones
              carried.prepared.settles all.went.stored all.went.each))));
        }
    by_result ended (Err cut) proceeds leaves is = absurd (cut_not_ended cut.fault (sym ended ∙ is))
