-- How the parts of a turn make a turn, and turns make a conversation, and what holds of every conversation.
use Rattle.pop3_wire.{
  specs.{Link.Link, Reply.IsFirstLine, Commands.line_of, Line.{crlf, IsLine, ended}, Bodies.{Drew, Rest, LeavesRest}, Body.{dot, Body}},
  specs.declared.{reply.Status.{Status, TheVariants.{Positive, Negative}}, note.Asked.Asked, unstuffer.Spot.TheVariants.Done},
  specs.declared.command.Command.TheVariants.{UidlAll, ListAll, Retr},
  specs.Reading.{WholeReply, reply_bytes, body_bytes, gives_body, IsUidLine, IsScanLine},
  specs.Place.{Place, at, GoesOn, Gains, HasLine, HasNoLine},
  proofs.BodiesLemmas.drew_on,
}
use Rattle.std.{
  proofs.Common.{Some, Option, true, ◌≡◌, inl, inr, ◌<◌, ◌≤◌, ◌+◌, ◌*◌, ℕ, false, List, [], ◌∷◌, ◌++◌, length, take, drop, None, Result},
  proofs.Common.{Ok, Err, refl, sym, ap, subst, ◌∙◌, arith, append_assoc, length-append, codes, append-nil, take_all, length-take, ◌≢◌},
  proofs.Common.{◌⊎◌, IfOk, IfErr, rules},
  proofs.lemmas.{Bool.false≢true, Grind.flat_map-append, List.append_cancel_left, Slice.Zip.{AllZip-long, all_zipped_more}},
  specs.List.{flat_map, AllZip, AllByRecursion},
}
use Rattle.pop3_client.specs.{
  declared.fault.ClientFault.ClientFault,
  declared.fault.ClientFault.TheVariants.{ConnectionEnded, ReplyTooLong, ReadFailed, BadReply, Refused, TooMany, BadListing, NoMemory},
  declared.fault.ClientFault.TheVariants.ListingsDisagree,
  Turns.{Turn, turn_bytes, Names, stat, Fits, IsBody, IsGood, line_limit, IsShort, most, asking, uidl, list, IsListingRow, AsksListing},
  Turns.{LinesFit, text_limit, retr},
  Causes.{Cause, BeginsPositive, FirstLine, IsPartOfListing, IsPartOfBody, HasRows, RowBehind},
  Conversation.{NoLineCause, Opened, Talked, TakesRefusal, Heard, Broke, NotAnswered, Stopped, Sent, GivesFew, AsksTurn, Completes, Talks},
  Conversation.{most_of, IsFrontOfNext, Paced, ConversationsArePaced},
  Listing.{Listed, GetsListing, ListsRows, RowsCause, NotTaken, TakesRows},
  Texts.{Fetched, Fetching},
}
use Rattle.mail_terms.{
  specs.{Listing.{Item, Agree, Joins, message_limit, UidRow}, declared.listing.ScanRow.ScanRow},
  proofs.ListLemmas.all_append,
}

-- ---- how many octets a reply has at most

-- each turn's reply may have a line
most_least : (turn : Turn) → line_limit ≤ most turn
most_least (Some UidlAll) = omega arith
most_least (Some ListAll) = omega arith
most_least (Some (Retr number)) = omega arith
most_least other = omega arith

-- how many octets these lines have at most
pub lines_within : (lines : List (List ℕ)) → AllByRecursion IsShort lines → length (flat_map ended lines) ≤ line_limit * length lines
lines_within [] short = omega arith
lines_within (line ∷ lines) short = omega (arith, length-append {A = ℕ}, short.0, lines_within lines short.1)

-- the same for the body of a turn's reply, if it has one, and its first line
body_within : (turn : Turn) (body : Option (List (List ℕ))) → IsBody turn body → line_limit + length (body_bytes body) ≤ most turn
body_within turn None is = omega (arith, most_least turn)
body_within (Some UidlAll) (Some lines) (_, (few, short, _)) = omega (arith, length-append {A = ℕ}, few, lines_within lines short)
body_within (Some ListAll) (Some lines) (_, (few, short, _)) = omega (arith, length-append {A = ℕ}, few, lines_within lines short)
body_within (Some (Retr number)) (Some lines) is = omega (arith, is.1)
body_within other (Some lines) is = absurd is.1

-- the same for a good reply
pub reply_within : (turn : Turn) (reply : WholeReply) → IsGood turn reply → length (reply_bytes reply) ≤ most turn
reply_within turn reply good = omega (arith, length-append {A = ℕ}, good.short, body_within turn reply.body good.body)

-- ---- parts of a turn

-- what follows both sides of an equation
pub append_on : (a g l h more : List ℕ) → a ++ g ≡ l ++ h → a ++ (g ++ more) ≡ l ++ (h ++ more)
append_on a g l h more e = sym (append_assoc a g more) ∙ ap (λ (s : List ℕ). s ++ more) e ∙ append_assoc l h more

pub none_in_all : (limit : ℕ) (bytes : List ℕ) → HasNoLine limit bytes → length bytes < limit → IsLine bytes
none_in_all limit bytes none short = subst IsLine (take_all limit bytes (omega arith)) none.none

-- a cause depends on the old link only by its failure count
pub cause_since : (fault : ClientFault) (turn : Turn) (old said new : Link) (bytes : List ℕ)
    → said.failures ≡ old.failures → Cause fault turn said new bytes → Cause fault turn old new bytes
cause_since ReadFailed turn old said new bytes same why = (subst (λ (n : ℕ). n < new.failures) same why.0, why.1)
cause_since other turn old said new bytes same why = why

-- what waits begins with the line, which is short, and its CR LF
pub line_at : {n : ℕ} {bytes : List ℕ} → HasLine line_limit bytes n → IsShort (take n bytes)
    × (bytes ≡ ended (take n bytes) ++ drop (n + 2) bytes)
line_at {n} {bytes} has = (
  omega (arith, has.within, length-take n bytes),
  has.whole ∙ sym (append_assoc (take n bytes) crlf (drop (n + 2) bytes)),
)

-- a turn was sent whole, and its first line taken
pub opened : {old : Place} {said : Link} {mid : Place} {n : ℕ} {bytes : List ℕ} (turn : Turn)
    → said ≡ record old.link { sent = old.link.sent ++ bytes } → bytes ≡ turn_bytes turn
    → (heard : Heard turn (at said old.waiting) (Ok n) mid) → Fits turn heard.4.0
    → Opened turn (take n mid.waiting) old (at mid.link (drop (n + 2) mid.waiting))
opened turn is same heard fits =
    let gains = rw (is, same) at heard.1 in
    let on = rw is at heard.3 in
    record {
      gained = heard.0;
      rest = heard.4.0;
      sent = gains.sent;
      got = gains.got;
      heard = sym gains.waiting ∙ (line_at heard.2).1;
      is = heard.2.line;
      short = (line_at heard.2).0;
      positive = heard.4.1;
      fits = fits;
      goes_on = record { ended = on.ended; failures = on.failures };
    }

pub drew_of : {old new : Place} {gained : List ℕ} → Gains old new gained → Drew old.link new.link gained
drew_of gains = record { got = gains.got; sent = gains.sent }

-- nothing was used
heard_unused : {fault : ClientFault} {turn : Turn} {old new : Place} {gained : List ℕ} → Gains old new gained
    → Cause fault turn old.link new.link (old.waiting ++ gained) → TakesRefusal fault [] → Heard turn old (Err fault) new
heard_unused {gained = gained} gains cause takes =
    record {
      gained = gained;
      used = [];
      sent = gains.sent;
      got = gains.got;
      heard = sym gains.waiting;
      within =
          omega arith;
      cause = cause;
      takes = takes;
    }

-- no line came
pub heard_none : (fault : ClientFault) {turn : Turn} {old new : Place} {gained : List ℕ} → Gains old new gained
    → NoLineCause fault old.link new.link new.waiting → Heard turn old (Err fault) new
heard_none ConnectionEnded gains why = let here = rw gains.waiting at why in heard_unused gains (here.0, inl here.1) tt
heard_none ReadFailed gains why = let here = rw gains.waiting at why in heard_unused gains (here.0, inl here.1) tt
heard_none ReplyTooLong gains why = heard_unused gains (inl (rw gains.waiting at why)) tt
heard_none other gains why = absurd why

-- a line came
module _ {old mid : Place} {gained : List ℕ} {n : ℕ} (gains : Gains old mid gained) (has : HasLine line_limit mid.waiting n) where
  abbrev pub first_came : FirstLine (old.waiting ++ gained) (take n mid.waiting)
  first_came = record {
    after = drop (n + 2) mid.waiting;
    is = has.line;
    short = (line_at has).0;
    whole =
        sym gains.waiting ∙ (line_at has).1;
  }

  pub heard_refused : (turn : Turn) (to : Asked) (rest : List ℕ) → Names to turn → IsFirstLine (take n mid.waiting) Negative rest
      → Heard turn old (Err (Refused to)) (at mid.link (drop (n + 2) mid.waiting))
  heard_refused turn to rest names first = record {
    gained = gained;
    used = ended (take n mid.waiting);
    sent = gains.sent;
    got = gains.got;
    heard = first_came.whole;
    within = omega (arith, length-append {A = ℕ}, (line_at has).0);
    cause = (names, (take n mid.waiting, rest, first_came, first));
    takes = (take n mid.waiting, has.line, refl);
  }

  pub heard_bad : (turn : Turn) → ((status : Status) (rest : List ℕ) → IsFirstLine (take n mid.waiting) status rest → ⊥)
      → Heard turn old (Err BadReply) mid
  heard_bad turn none = heard_unused gains (
    take n mid.waiting,
    first_came,
    none Negative,
    λ rest first. absurd (none Positive rest first),
  ) tt

  -- STAT's line isn't good
  pub few_heard : (fault : ClientFault) → GivesFew (take n mid.waiting) (Err fault) → Heard stat old (Err fault) mid
  few_heard BadReply why = heard_unused gains (take n mid.waiting, first_came, why.0, λ rest read. (refl, why.1 rest read)) tt
  few_heard TooMany why = heard_unused gains (inl (refl, (take n mid.waiting, why.0, why.1, why.2, first_came, why.3, why.4, why.5))) tt
  few_heard other why = absurd why

-- a turn was sent whole, and its reply isn't good
pub broke_there : (turn : Turn) (old : Place) (said : Link) (new : Place) (fault : ClientFault)
    → said ≡ record old.link { sent = old.link.sent ++ turn_bytes turn }
    → Heard turn (at said old.waiting) (Err fault) new → Broke turn old new fault
broke_there turn old said new fault is heard =
    let why = rw is at heard in
    inr (inl record {
      gained = why.gained;
      used = why.used;
      sent = why.sent;
      got = why.got;
      heard = why.heard;
      within = omega (arith, most_least turn, why.within);
      cause = cause_since fault turn old.link (record old.link { sent = old.link.sent ++ turn_bytes turn }) new.link
          (old.waiting ++ why.gained) refl why.cause;
      takes = why.takes;
    })

pub stat_bytes : codes "STAT" ++ crlf ≡ turn_bytes stat
unfolding line_of
stat_bytes = refl

-- the octets that were sent are a turn's
pub sent_for : (turn : Turn) (old said : Link) (bytes : List ℕ) → said ≡ record old { sent = old.sent ++ bytes } → bytes ≡ turn_bytes turn
    → said ≡ record old { sent = old.sent ++ turn_bytes turn }
sent_for turn old said bytes is same = rw same at is

-- nothing is sent for the greeting
pub nothing_said : (link : Link) → link ≡ record link { sent = link.sent ++ [] }
nothing_said link = rw append-nil

-- a turn wasn't sent whole
pub broke_saying : (turn : Turn) (old new : Place) (fault : ClientFault)
    → Sent (turn_bytes turn) old.link (Err fault) new.link → new.waiting ≡ old.waiting → Broke turn old new fault
broke_saying turn old new fault (failed, (front, rest, split, is)) waits = inl (
  failed,
  record {
    front = front;
    rest = rest;
    split = split;
    sent = rw is;
    got = rw is;
    waiting = waits;
    risen = rw is (omega arith);
  },
)

-- ---- turns in a row

pub goes_further : {a b c : Link} → GoesOn a b → GoesOn b c → GoesOn a c
goes_further first then = record { ended = then.ended ∙ first.ended; failures = then.failures ∙ first.failures }

pub talked_none : (place : Place) → Talked [] [] place place
talked_none place = record {
  gained = [];
  sent = sym (append-nil place.link.sent);
  got = sym (append-nil place.link.got);
  heard = append-nil place.waiting;
  good = tt;
  goes_on = record { ended = refl; failures = refl };
}

good_on : (xs ys : List Turn) (ls ms : List WholeReply) → AllZip IsGood xs ls → AllZip IsGood ys ms → AllZip IsGood (xs ++ ys) (ls ++ ms)
good_on [] ys [] ms first then = then
good_on (x ∷ xs) ys (l ∷ ls) ms first then = (first.0, good_on xs ys ls ms first.1 then)
good_on _ ys _ ms first then = absurd first

pub talked_on : (xs ys : List Turn) (ls ms : List WholeReply) (a b c : Place) → Talked xs ls a b → Talked ys ms b c
    → Talked (xs ++ ys) (ls ++ ms) a c
talked_on xs ys ls ms a b c first then = record {
  gained = first.gained ++ then.gained;
  sent = simp (then.sent, first.sent, flat_map-append, append_assoc);
  got = simp (then.got, first.got, append_assoc);
  heard = append_on a.waiting first.gained (flat_map reply_bytes ls) b.waiting then.gained first.heard
      ∙ simp (then.heard, flat_map-append, append_assoc);
  good = good_on xs ys ls ms first.good then.good;
  goes_on = goes_further first.goes_on then.goes_on;
}

-- a turn whose first line was taken, and then the body of its reply, if there is one
pub talked_reply : {turn : Turn} {line : List ℕ} {old mid new : Place} {gained : List ℕ} (body : Option (List (List ℕ)))
    → Opened turn line old mid → Drew mid.link new.link gained
    → GoesOn mid.link new.link → mid.waiting ++ gained ≡ body_bytes body ++ new.waiting → IsBody turn body
    → Talked (turn ∷ []) (record { first = line; body = body } ∷ []) old new
talked_reply {line = line} {old} {mid} {gained = gained} body begun drew onward heard is = record {
  gained = begun.gained ++ gained;
  sent = simp (drew.sent, begun.sent, append-nil);
  got = simp (drew.got, begun.got, append_assoc);
  heard = append_on old.waiting begun.gained (ended line) mid.waiting gained begun.heard ∙ simp (heard, append-nil, append_assoc);
  good = (record { rest = begun.rest; line = begun.is; short = begun.short; positive = begun.positive; fits = begun.fits; body = is }, tt);
  goes_on = goes_further begun.goes_on onward;
}

-- a reply of one line
pub talked_line : (turn : Turn) (line : List ℕ) (old new : Place) → Opened turn line old new → gives_body turn ≡ false
    → Talked (turn ∷ []) (record { first = line; body = None } ∷ []) old new
talked_line turn line old new begun none =
    talked_reply None begun (record { got = sym (append-nil new.link.got); sent = refl })
    (record { ended = refl; failures = refl }) (append-nil new.waiting) none

-- a turn broke after its good first line
pub not_answered_behind : {turn : Turn} {line : List ℕ} {old mid new : Place} {gained : List ℕ} (fault : ClientFault)
    (used : List ℕ) → Opened turn line old mid
    → Drew mid.link new.link gained → Cause fault turn mid.link new.link (ended line ++ (mid.waiting ++ gained))
    → mid.waiting ++ gained ≡ used ++ new.waiting → line_limit + length used ≤ most turn
    → TakesRefusal fault (ended line ++ used) → NotAnswered turn old new fault
not_answered_behind {turn} {line} {old} {mid} {new} {gained} fault used begun drew why rest small takes =
    let heard = append_on old.waiting begun.gained (ended line) mid.waiting gained begun.heard in
    record {
      gained = begun.gained ++ gained;
      used = ended line ++ used;
      sent = drew.sent ∙ begun.sent;
      got = simp (drew.got, begun.got, append_assoc);
      heard = heard ∙ simp (rest, append_assoc);
      within = omega (arith, length-append {A = ℕ}, begun.short);
      cause = cause_since fault turn old.link mid.link new.link (old.waiting ++ (begun.gained ++ gained))
          begun.goes_on.failures (rw heard why);
      takes = takes;
    }

pub stopped_first : (turn : Turn) (turns : List Turn) (old new : Place) (fault : ClientFault) → Broke turn old new fault
    → Stopped (turn ∷ turns) old new fault
stopped_first turn turns old new fault broke =
    record { done = []; replies = []; next = turn; later = turns; mid = old; split = refl; talked = talked_none old; broke = broke }

-- after turns that were talked, others stopped
pub stopped_behind : (xs ys : List Turn) (rs : List WholeReply) (a b new : Place) (fault : ClientFault)
    → Talked xs rs a b → Stopped ys b new fault → Stopped (xs ++ ys) a new fault
stopped_behind xs ys rs a b new fault first then = record {
  done = xs ++ then.done;
  replies = rs ++ then.replies;
  next = then.next;
  later = then.later;
  mid = then.mid;
  split = ap (λ (ts : List Turn). xs ++ ts) then.split ∙ sym (append_assoc xs then.done (then.next ∷ then.later));
  talked = talked_on xs then.done rs then.replies a b then.mid first then.talked;
  broke = then.broke;
}

-- a turn whose first line was taken has a reply that begins well
pub begins_of : {turn : Turn} {line : List ℕ} {old mid : Place} (after : List ℕ) → Opened turn line old mid
    → BeginsPositive (ended line ++ after) after
begins_of {line = line} after begun = record {
  line = line;
  rest = begun.rest;
  is = begun.is;
  short =
      begun.short;
  whole = refl;
  positive = begun.positive;
}

-- a turn with a reply of one line was completed, or it broke
pub asks_completes : (turn : Turn) (old new : Place) (result : Result (Unit {0}) ClientFault) → gives_body turn ≡ false
    → AsksTurn turn old result new → Completes turn old result new
asks_completes turn old new (Ok done) none asks = (record { first = asks.0; body = None }, talked_line turn asks.0 old new asks.1 none)
asks_completes turn old new (Err fault) none asks = asks

-- one turn is a conversation
pub completes_talks : (turn : Turn) (old new : Place) (result : Result (Unit {0}) ClientFault)
    → Completes turn old result new → Talks (turn ∷ []) old result new
completes_talks turn old new (Ok done) completes = (completes.0 ∷ [], completes.1)
completes_talks turn old new (Err fault) completes = stopped_first turn [] old new fault completes

-- a turn before a conversation
pub completes_then : (turn : Turn) (turns : List Turn) (old mid new : Place) (reply : WholeReply) (result : Result (Unit {0}) ClientFault)
    → Talked (turn ∷ []) (reply ∷ []) old mid → Talks turns mid result new → Talks (turn ∷ turns) old result new
completes_then turn turns old mid new reply (Ok done) first then =
    (reply ∷ then.0, talked_on (turn ∷ []) turns (reply ∷ []) then.0 old mid new first then.1)
completes_then turn turns old mid new reply (Err fault) first then =
    stopped_behind (turn ∷ []) turns (reply ∷ []) old mid new fault first then

-- ---- what holds of every conversation

-- the replies to some turns before others keep to what all of them may have
replies_within : (turns rest : List Turn) (replies : List WholeReply) → AllZip IsGood turns replies
    → length (flat_map reply_bytes replies) + most_of rest ≤ most_of (turns ++ rest)
replies_within [] rest [] good = omega arith
replies_within (turn ∷ turns) rest (reply ∷ replies) good =
    omega (arith, length-append {A = ℕ}, reply_within turn reply good.0, replies_within turns rest replies good.1)
replies_within _ rest _ good = absurd good

-- some of the turns were completed, `part` of the others' octets was sent, and `used` was used of what waited and came after that
behind : {done : List Turn} {replies : List WholeReply} {old mid new : Place} (rest : List Turn)
    → Talked done replies old mid → (part later gained used : List ℕ)
    → IsFrontOfNext part rest → asking rest ≡ part ++ later → new.link.sent ≡ mid.link.sent ++ part → new.link.got ≡ mid.link.got ++ gained
    → mid.waiting ++ gained ≡ used ++ new.waiting → length used ≤ most_of rest → Paced (done ++ rest) old new
behind {done} {replies} {old} {mid} rest talked part later gained used begun front sent got heard small = record {
  done = done;
  rest = rest;
  part = part;
  replies = replies;
  gained = talked.gained ++ gained;
  after = mid.waiting ++ gained;
  split = refl;
  begun = begun;
  sent = simp (sent, talked.sent, append_assoc);
  front = (later, simp (flat_map-append, front, append_assoc));
  got = simp (got, talked.got, append_assoc);
  good = talked.good;
  heard = append_on old.waiting talked.gained (flat_map reply_bytes replies) mid.waiting gained talked.heard;
  within = omega (
    arith,
    length-append {A = ℕ},
    replies_within done rest replies talked.good,
    ap length talked.heard,
    ap length heard,
    small,
  );
}

pub paced : ConversationsArePaced
paced turns old new (Ok done) talks =
    rw append-nil at (behind {new = new} [] talks.1 [] [] [] [] refl refl (sym (append-nil new.link.sent))
    (sym (append-nil new.link.got)) (append-nil new.waiting) (omega arith))
paced turns old new (Err fault) at =
    let front = behind {new = new} (at.next ∷ at.later) at.talked in
    rw at.split (elim at.broke [
      | inl cut ↦ front cut.1.front (cut.1.rest ++ asking at.later) [] [] (cut.1.rest, cut.1.split)
          (simp (cut.1.split, append_assoc)) cut.1.sent
          (cut.1.got ∙ sym (append-nil at.mid.link.got)) (append-nil at.mid.waiting ∙ sym cut.1.waiting) (omega arith)
      | inr (inl bad) ↦ front (turn_bytes at.next) (asking at.later) bad.gained bad.used
          ([], sym (append-nil (turn_bytes at.next))) refl bad.sent bad.got bad.heard (omega (arith, bad.within))
      | inr (inr none) ↦ front [] (asking (at.next ∷ at.later)) [] [] (turn_bytes at.next, refl) refl
          (rw (none.2, append-nil)) (rw (none.2, append-nil))
          (append-nil at.mid.waiting ∙ sym (ap (λ (p : Place). p.waiting) none.2)) (omega arith)
    ])

-- ---- the bodies of replies: the rows of a listing, taken one by one, and a text that is being taken

-- what holds of both listings
pub by_listing : (P : Turn → Type 0) → P uidl → P list → (turn : Turn) → AsksListing turn → P turn
by_listing P first second turn (inl is) = rw is first
by_listing P first second turn (inr is) = rw is second

-- a line that waits isn't the end mark
pub not_end : {bytes waiting : List ℕ} (n : ℕ) → bytes ≡ waiting → (take n bytes ≡ dot → false ≡ true) → take n waiting ≢ dot
not_end n same ends e = false≢true (ends (ap (take n) same ∙ e))

-- some rows were taken: these lines, which stand for these rows, and the rest waits
pub record TookRows {R : Type 0} (turn : Turn) (StandsFor : List ℕ → R → Type 0) (old new : Place) (rows : List R) : Type 0 where
  pub lines : List (List ℕ)
  pub gained : List ℕ
  pub has : HasRows turn (old.waiting ++ gained) new.waiting lines
  pub read : AllZip StandsFor lines rows
  pub drew : Drew old.link new.link gained
  pub goes_on : GoesOn old.link new.link

pub took_none : {R : Type 0} (turn : Turn) (StandsFor : List ℕ → R → Type 0) (place : Place) → AsksListing turn
    → TookRows turn StandsFor place place []
took_none turn StandsFor place listing = record {
  lines = [];
  gained = [];
  has = record { listing = listing; content = tt; short = tt; rows = tt; few = omega arith; whole = append-nil place.waiting };
  read = tt;
  drew = record { got = sym (append-nil place.link.got); sent = refl };
  goes_on = record { ended = refl; failures = refl };
}

module _ {R : Type 0} {turn : Turn} {StandsFor : List ℕ → R
    → Type 0} {old here : Place} {rows : List R} (now : TookRows turn StandsFor old here rows) where
  -- more was got, and nothing taken yet
  more_waits : {new : Place} {more : List ℕ} → Gains here new more
      → HasRows turn (old.waiting ++ (now.gained ++ more)) new.waiting now.lines
  more_waits {more = more} gains = record {
    listing = now.has.listing;
    content = now.has.content;
    short = now.has.short;
    rows = now.has.rows;
    few = now.has.few;
    whole = append_on old.waiting now.gained (flat_map ended now.lines) here.waiting more now.has.whole
        ∙ ap (λ (l : List ℕ). flat_map ended now.lines ++ l) (sym gains.waiting);
  }

  pub took_on : {new : Place} {more : List ℕ} → Gains here new more → GoesOn here.link new.link → TookRows turn StandsFor old new rows
  took_on {more = more} gains onward = record {
    lines = now.lines;
    gained = now.gained ++ more;
    has = more_waits gains;
    read = now.read;
    drew = drew_on now.drew (drew_of gains);
    goes_on = goes_further now.goes_on onward;
  }

  -- the rows stop at one that waits
  pub rows_stop : (fault : ClientFault) → RowsCause fault turn old.link here.link (old.waiting ++ now.gained) → NotTaken turn old here fault
  rows_stop fault cause = record { gained = now.gained; used = now.lines; drew = now.drew; cause = cause; has = now.has }

  -- a row waits
  module _ {n : ℕ} (has : HasLine line_limit here.waiting n) (other : take n here.waiting ≢ dot) where
    -- it was taken
    pub took_row : {row : R} → IsListingRow turn (take n here.waiting) → StandsFor (take n here.waiting) row → length rows < message_limit
        → TookRows turn StandsFor old (at here.link (drop (n + 2) here.waiting)) (rows ++ row ∷ [])
    took_row {row} good read few =
        let line = take n here.waiting in record {
          lines = now.lines ++ line ∷ [];
          gained = now.gained;
          has = record {
            listing = now.has.listing;
            content = all_append _ now.lines _ now.has.content ((has.line, other), tt);
            short = all_append _ now.lines _ now.has.short ((line_at has).0, tt);
            rows = all_append _ now.lines _ now.has.rows (good, tt);
            few = omega (arith, length-append now.lines (line ∷ []), AllZip-long StandsFor now.lines rows now.read);
            whole = now.has.whole ∙ ap (λ (l : List ℕ). flat_map ended now.lines ++ l) (line_at has).1
                ∙ simp (flat_map-append, append-nil, append_assoc);
          };
          read = all_zipped_more StandsFor now.lines rows line row now.read read;
          drew = now.drew;
          goes_on = now.goes_on;
        }

    -- it wasn't
    pub row_behind : RowBehind turn (old.waiting ++ now.gained) (take n here.waiting) (length rows)
    row_behind = record {
      behind = drop (n + 2) here.waiting;
      lines = now.lines;
      has = subst (λ (l : List ℕ). HasRows turn (old.waiting ++ now.gained) l now.lines) (line_at has).1 now.has;
      count = sym (AllZip-long StandsFor now.lines rows now.read);
      content = (has.line, other);
      short = (line_at has).0;
    }

    -- there are too many
    pub rows_full : message_limit ≤ length rows → NotTaken turn old here TooMany
    rows_full full =
        let count : length rows ≡ message_limit = omega (arith, full, now.has.few, AllZip-long StandsFor now.lines rows now.read) in
        rows_stop TooMany (take n here.waiting, subst (RowBehind turn (old.waiting ++ now.gained) (take n here.waiting)) count row_behind)

  -- no line came
  pub rows_cause : {new : Place} {more : List ℕ} (fault : ClientFault) → Gains here new more
      → NoLineCause fault here.link new.link new.waiting → NotTaken turn old new fault
  rows_cause {new} {more} fault gains why = record {
    gained = now.gained ++ more;
    used = now.lines;
    drew = drew_on now.drew (drew_of gains);
    cause = by fault why;
    has = more_waits gains;
  }
    where
      by : (f : ClientFault) → NoLineCause f here.link new.link new.waiting
          → RowsCause f turn old.link new.link (old.waiting ++ (now.gained ++ more))
      by ConnectionEnded w = (w.0, (new.waiting, now.lines, more_waits gains, w.1))
      by ReadFailed w = (subst (λ (k : ℕ). k < new.link.failures) now.goes_on.failures w.0, (new.waiting, now.lines, more_waits gains, w.1))
      by ReplyTooLong w = (new.waiting, now.lines, more_waits gains, w)
      by _ w = absurd w

  -- the end mark waits: it is taken
  pub rows_end : {n : ℕ} → HasLine line_limit here.waiting n → take n here.waiting ≡ dot
      → TakesRows turn StandsFor old (Ok rows) (at here.link (drop (n + 2) here.waiting))
  rows_end {n} has is =
      let waits : here.waiting ≡ ended dot ++ drop (n + 2) here.waiting = (line_at has).1
      ∙ ap (λ (l : List ℕ). ended l ++ drop (n + 2) here.waiting) is in (
        now.lines,
        record {
          gained = now.gained;
          drew = now.drew;
          goes_on = now.goes_on;
          content = now.has.content;
          fit = by_listing (λ t. AllByRecursion (IsListingRow t) now.lines
              → LinesFit t now.lines) (λ rows. (now.has.few, now.has.short, rows))
              (λ rows. (now.has.few, now.has.short, rows)) turn now.has.listing now.has.rows;
          heard = now.has.whole ∙ ap (λ (l : List ℕ). flat_map ended now.lines ++ l) waits ∙ simp append_assoc;
        },
        now.read,
      )

part_of_body : (bytes : List ℕ) (turn : Turn) → AsksListing turn → IsPartOfListing turn bytes → IsPartOfBody turn bytes
part_of_body bytes = by_listing (λ (turn : Turn). IsPartOfListing turn bytes → IsPartOfBody turn bytes) (λ part. part) (λ part. part)

-- why a listing isn't good, as a cause of its whole reply
cause_of_rows : (fault : ClientFault) (turn : Turn) (old new : Link) (bytes after used : List ℕ)
    → BeginsPositive bytes after → AsksListing turn
    → RowsCause fault turn old new after → Cause fault turn old new bytes × TakesRefusal fault used
cause_of_rows ConnectionEnded turn old new bytes after used begins listing why =
    ((why.0, inr (after, begins, part_of_body after turn listing why.1)), tt)
cause_of_rows ReadFailed turn old new bytes after used begins listing why =
    ((why.0, inr (after, begins, part_of_body after turn listing why.1)), tt)
cause_of_rows ReplyTooLong turn old new bytes after used begins listing why = (inr (after, why.0, why.1, begins, why.2, why.3), tt)
cause_of_rows BadListing turn old new bytes after used begins listing why = ((why.0, why.1, (after, begins, why.2), why.3, why.4), tt)
cause_of_rows TooMany turn old new bytes after used begins listing why = (inr (why.0, (after, begins, why.1)), tt)
cause_of_rows NoMemory turn old new bytes after used begins listing why = ((why.0, why.1, (after, begins, why.2), why.3, why.4), tt)
cause_of_rows _ turn old new bytes after used begins listing why = absurd why

-- a listing was asked for, and its rows taken or not
pub lists_of : {R : Type 0} (turn : Turn) (IsThisRow : List ℕ → R
    → Type 0) (line : List ℕ) (old mid new : Place) (result : Result (List R) ClientFault)
    → Opened turn line old mid → AsksListing turn → TakesRows turn IsThisRow mid result new → ListsRows turn IsThisRow old result new
lists_of turn IsThisRow line old mid new (Ok rows) begun listing takes = (
  record { first = line; body = Some takes.0 },
  talked_reply (Some takes.0) begun takes.1.drew takes.1.goes_on takes.1.heard (takes.1.content, takes.1.fit),
  (takes.0, refl, takes.2),
)
lists_of turn IsThisRow line old mid new (Err fault) begun listing takes =
    let after = mid.waiting ++ takes.gained in
    let used = flat_map ended takes.used in
    let cause = cause_of_rows fault turn mid.link new.link (ended line ++ after) after (ended line ++ used)
    (begins_of after begun) listing takes.cause in
    inr (inl (not_answered_behind fault used begun takes.drew cause.0 takes.has.whole (omega (
      arith,
      takes.has.few,
      lines_within takes.used takes.has.short,
      by_listing (λ (t : Turn). most t ≡ line_limit + line_limit * (message_limit + 1)) refl refl turn listing,
    )) cause.1))

-- both listings were completed
pub listed : (old mid new : Place) (uids : List UidRow) (sizes : List ScanRow)
    → ListsRows uidl IsUidLine old (Ok uids) mid → ListsRows list IsScanLine mid (Ok sizes) new → Listed old new uids sizes
listed old mid new uids sizes first second = record {
  first = first.0;
  second = second.0;
  talked = talked_on (uidl ∷ []) (list ∷ []) (first.0 ∷ []) (second.0 ∷ []) old mid new first.1 second.1;
  names = first.2;
  octets = second.2;
}

-- and joined, or not
pub lists_joined : (count : ℕ) (old new : Place) (uids : List UidRow) (sizes : List ScanRow)
    (result : Result (List Item) ClientFault) → Listed old new uids sizes → IfOk result (Joins count uids sizes)
    → IfErr result (λ fault. ((fault ≡ ListingsDisagree) × (Agree count uids sizes → ⊥)) ⊎ (fault ≡ NoMemory))
    → GetsListing count old result new
lists_joined count old new uids sizes (Ok items) all ok err = (uids, sizes, all, ok)
lists_joined count old new uids sizes (Err fault) all ok err = search rules

-- ---- a text

-- a text that has ended was taken whole
pub fetched : {number : ℕ} {old new : Place} {body : Rest} {text : List ℕ} → Fetching (retr number) old new body text
    → body.spot ≡ Done → Fetched (retr number) old text new
fetched {new = new} {text = text} now done =
    let is : Body now.under.used text = rw done at now.under.reached in (
      record { first = now.line; body = Some is.lines },
      talked_reply (Some is.lines) now.opened now.under.drew now.under.goes_on (now.under.heard
          ∙ ap (λ (b : List ℕ). b ++ new.waiting) is.whole) (is.content, omega (arith, now.under.sizes, ap length is.whole)),
      is.read,
    )

-- the turn broke while its text was being taken
module _ {number : ℕ} {start mid : Place} {line : List ℕ} (begun : Opened (retr number) line start mid) where
  pub broke_text : {new : Place} {gained : List ℕ} (fault : ClientFault) (leaves : LeavesRest text_limit mid new)
      → Drew mid.link new.link gained → (BeginsPositive (ended line ++ (mid.waiting ++ gained)) (mid.waiting ++ gained)
      → Cause fault (retr number) mid.link new.link (ended line ++ (mid.waiting ++ gained)))
      → TakesRefusal fault (ended line ++ leaves.used) → NotAnswered (retr number) start new fault
  broke_text {new} {gained} fault leaves drew cause takes =
      let same : leaves.gained ≡ gained = append_cancel_left mid.link.got leaves.gained gained (sym leaves.got ∙ drew.got) in
      not_answered_behind fault leaves.used begun drew (cause (begins_of (mid.waiting ++ gained) begun))
      (rw same at leaves.heard) (omega (arith, leaves.within)) takes
