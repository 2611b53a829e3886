-- What is known of calls of a link in a row, what a session says to its server, how much it takes from its link, and how many calls
-- of it are refused.
use Rattle.std.proofs.Common.{◌≡◌, Result, Ok, Err, ap, List, [], ◌∷◌, ◌++◌, refl, sym, ◌∙◌, append-nil, append_assoc, inl, inr, ℕ, None}
use Rattle.std.proofs.Common.{Option, Some, ⊎_elim, ◌≤◌, ◌+◌, ◌*◌, length, arith, length-append}
use Rattle.pop3_wire.specs.{
  declared.{wire.Wire.Ghosts, note.Asked.Asked},
  Line.ended,
  Bodies.Rest,
  Link.{WhereSound, Link},
  Place.{Place, at},
  Reading.{WholeReply, GivesCount},
}
use Rattle.pop3_client.specs.Turns.{Turn, stat, uidl, list, turn_bytes, asking, retr, Names, line_limit, text_limit, quit}
pub use Rattle.pop3_client.proofs.TalkLemmas.{completes_talks, stopped_first, talked_none}
pub use Rattle.mail_terms.proofs.ErrLemmas.{err_is}
use Rattle.pop3_client.specs.{
  Conversation.{Talked, Broke, Stopped, Completes, Talks, TurnsJoin, login, ConversationsArePaced, is_link_refusal, most_of},
  declared.fault.ClientFault.{ClientFault, TheVariants.{ReadFailed, WriteFailed, Refused as WasRefused}},
  Listing.{Listed, GetsListing},
  Texts.{Fetching, TakesRest},
}
use Rattle.mail_terms.specs.{Listing.{Item, UidRow}, declared.listing.ScanRow.ScanRow, FailureCount.Tallies}
use Rattle.session_parts.specs.{
  Opening.{SessionOpened, Enters, opening},
  declared.{fault.{Fault.{Fault, TheVariants.Refused}, Cut.Cut}, report.Outcome.{Outcome, TheVariants.Cut as WasCut}},
  declared.tail.Tail.{TheVariants.Nothing, Tail},
  Tail.{turns_of_tail, tail, Drops, TalksTailBy, turns_of_tail as tail_turns},
  Mbox.TakesText,
  Fault.{cut_of, fault_of},
  Refusal.{RefusesNone, RefusesAtMostOne, RefusesBefore, RefusesTillCut, RefusesByOutcome, session_limit, step_limit, opening_limit, Took},
  Refusal.{tail_limit, GotAtMost, TookBefore, TookTillCut, TookWithTail},
  Store.StopsReading,
}
use Rattle.pop3_wire.specs.declared.note.Asked.TheVariants.{User as ByUser, Pass as ByPass, Quit as ByQuit}

module _ {W : Type 0} (link : Ghosts W) where
  -- what a call did, leaving out what the link leads to
  pub did_so : {a b : W} {P Q : Type 0} → WhereSound link.sound link.leads_to a b P → (P → Q) → link.sound b → link.sound a × Q
  did_so did words sound = let all = did sound in (all.0, words all.2)

  pub did_both : {a b c : W} {P Q R : Type 0} → WhereSound link.sound link.leads_to a b P
      → WhereSound link.sound link.leads_to b c Q → (P → Q → R) → link.sound c → link.sound a × R
  did_both first second both sound =
      let then = second sound in
      let all = first then.0 in
      (all.0, both all.2 then.2)

-- after turns that were completed, others stopped
pub stops_after_talk : TurnsJoin → (xs ys : List Turn) (rs : List WholeReply) (a b new : Place) (fault : ClientFault)
    → Talked xs rs a b → Stopped ys b new fault → Stopped (xs ++ ys) a new fault
stops_after_talk joining xs _ rs a b _ _ first then = record {
  done = xs ++ then.done;
  replies = rs ++ then.replies;
  next = then.next;
  later = then.later;
  mid = then.mid;
  split = cc (append_assoc xs then.done (then.next ∷ then.later));
  talked = joining.on xs then.done rs then.replies a b then.mid first then.talked;
  broke = then.broke;
}

-- ---- logging in, the count and the listings

module _ (joining : TurnsJoin) (name password : List ℕ) (a b c d : Place) (welcome : List WholeReply)
    (entered : Talked (login name password) welcome a b) where
  all_opened : (counted : WholeReply) (count : ℕ) (uids : List UidRow) (sizes : List ScanRow)
      → Talked (stat ∷ []) (counted ∷ []) b c → GivesCount counted count → Listed c d uids sizes
      → SessionOpened name password a d count uids sizes
  all_opened counted _ _ _ talked gives listed = record {
    welcome = welcome;
    counted = counted;
    named = listed.first;
    sized = listed.second;
    talked = joining.on (login name password) (stat ∷ uidl ∷ list ∷ []) welcome (counted ∷ listed.first ∷ listed.second ∷ []) a b d entered
        (joining.on (stat ∷ []) (uidl ∷ list ∷ []) (counted ∷ []) (listed.first ∷ listed.second ∷ []) b c d talked listed.talked);
    gives = gives;
    names = listed.names;
    octets = listed.octets;
  }

  pub listed_too : (counted : WholeReply) (count : ℕ) (result : Result (List Item) ClientFault)
      → Talked (stat ∷ []) (counted ∷ []) b c → GivesCount counted count → GetsListing count c result d → Enters name password a result d
  listed_too counted count (Ok _) talked gives (uids, sizes, listed, joins) =
      (count, uids, sizes, all_opened _ _ _ _ talked gives listed, joins)
  listed_too counted _ (Err fault) talked _ (inl stopped) =
      inl (stops_after_talk joining _ _ _ a b d fault entered (stops_after_talk joining _ _ _ b c d fault talked stopped))
  listed_too counted count (Err _) talked gives (inr (inl (is, (uids, sizes, listed, never)))) =
      inr (inl (is, (count, uids, sizes, all_opened _ _ _ _ talked gives listed, never)))
  listed_too counted count (Err _) talked gives (inr (inr (is, (uids, sizes, listed)))) =
      inr (inr (is, (count, uids, sizes, all_opened _ _ _ _ talked gives listed)))

-- logging in stopped
pub not_entered : (name password : List ℕ) (a b : Place) (fault : ClientFault) → Stopped (login name password) a b fault
    → Enters name password a (Err fault) b
not_entered _ _ a b _ stopped = inl (record {
  done = stopped.done;
  replies = stopped.replies;
  next = stopped.next;
  later = stopped.later ++ (stat ∷ uidl ∷ list ∷ []);
  mid = stopped.mid;
  split = cc (append_assoc stopped.done (stopped.next ∷ stopped.later) (stat ∷ uidl ∷ list ∷ []));
  talked = stopped.talked;
  broke = stopped.broke;
})

-- ---- what was said and got goes on from a reply under way

-- the rest of a text is a conversation of one turn
rest_talks : (number : ℕ) (start new : Place) (r : Result (Unit {0}) ClientFault) → TakesRest (retr number) start r new
    → Talks (retr number ∷ []) start r new
rest_talks _ _ _ (Ok _) takes = (takes.0 ∷ [], takes.1)
rest_talks number start new (Err why) bad = stopped_first _ [] start new why (inr (inl bad))

-- nothing was said while the rest was read
silent_rest : (number : ℕ) (start old new : Place) (rest : Rest) (text : List ℕ) (r : Result (Unit {0}) ClientFault)
    → Fetching (retr number) start old rest text → TakesRest (retr number) start r new → new.link.sent ≡ old.link.sent
silent_rest number start _ _ _ _ (Ok _) now takes = cc (append-nil (turn_bytes (retr number)))
silent_rest _ _ _ _ _ _ (Err _) now bad = cc

-- a place from which the same text would be under way, if all that came had come before it was asked for
abbrev again : (number : ℕ) (start old : Place) (rest : Rest) (text : List ℕ) → Fetching (retr number) start old rest text → Place
again _ start old _ _ now = at (record old.link { sent = start.link.sent }) (ended now.line ++ (now.under.used ++ old.waiting))

fetching_again : (number : ℕ) (start old : Place) (rest : Rest) (text : List ℕ) → (now : Fetching (retr number) start old rest text)
    → Fetching (retr number) (again number start old rest text now) old rest text
fetching_again _ _ old rest _ now = record {
  line = now.line;
  mid = at old.link (now.under.used ++ old.waiting);
  opened = record {
    gained = [];
    rest = now.opened.rest;
    sent = cc;
    got = sym (append-nil old.link.got);
    heard = append-nil (ended now.line ++ (now.under.used ++ old.waiting));
    is = now.opened.is;
    short = now.opened.short;
    positive = now.opened.positive;
    fits = now.opened.fits;
    goes_on = record { ended = refl; failures = refl };
  };
  under = record {
    used = now.under.used;
    gained = [];
    reached = now.under.reached;
    sizes = now.under.sizes;
    heard = append-nil (now.under.used ++ old.waiting);
    drew = record { got = sym (append-nil old.link.got); sent = refl };
    goes_on = record { ended = refl; failures = refl };
  };
}

-- a turn before a conversation
talks_from_turn : TurnsJoin → (turn : Turn) (turns : List Turn) (old mid new : Place) (reply : WholeReply)
    (result : Result (Unit {0}) ClientFault) → Talked (turn ∷ []) (reply ∷ []) old mid
    → Talks turns mid result new → Talks (turn ∷ turns) old result new
talks_from_turn joining turn turns old mid new reply (Ok _) first then =
    (reply ∷ then.0, joining.on (turn ∷ []) turns (reply ∷ []) then.0 old mid new first then.1)
talks_from_turn joining turn turns old mid new reply (Err fault) first then = stops_after_talk joining _ _ _ _ _ _ fault first then

module _ (joining : TurnsJoin) (paced : ConversationsArePaced) where
  got_under : (number : ℕ) (start old new : Place) (rest : Rest) (text : List ℕ) (r : Result (Unit {0}) ClientFault)
      → Drops (Some rest) old r new → Fetching (retr number) start old rest text
      → (gained : List ℕ) × (new.link.got ≡ old.link.got ++ gained)
  got_under number start old new rest text r drops now =
      let here = again number start old rest text now in
      let p = paced (retr number ∷ []) here new r
      (rest_talks number here new r (drops.1 number here text (fetching_again number start old rest text now))) in
      (p.gained, p.got)

  -- ---- a tail after a reply under way

  pub left_dropped : (fault : Fault) (rest : Option Rest) (old mid new : Place) (r : Result (Unit {0}) ClientFault)
      → Drops rest old (Ok tt) mid → Talks (turns_of_tail (tail fault)) mid r new → (tail fault ≡ Nothing → new ≡ mid)
      → TalksTailBy fault rest old new
  left_dropped fault None old mid new r same talks still = (r, rw same at talks, λ silent. still silent ∙ same)
  left_dropped fault (Some rest) old mid new r drops talks still = (
    λ done. (r, rw (drops.0 done).1 at talks),
    λ number start text now.
        let told = drops.1 number start text now in
        let got = got_under number start old mid rest text (Ok tt) drops now in
        let p = paced (turns_of_tail (tail fault)) mid new r talks in (
          r,
          talks_from_turn joining (retr number) (turns_of_tail (tail fault)) start mid new told.0 r told.1 talks,
          record {
            said = asking p.done ++ p.part;
            gained = got.0 ++ p.gained;
            sent = p.sent ∙ ap (λ (s : List ℕ). s ++ (asking p.done ++ p.part))
                (silent_rest number start old mid rest text (Ok tt) now told);
            got = simp (p.got, got.1, append_assoc);
            front = p.front;
          },
        ),
  )

  pub left_broken : (fault : Fault) (rest : Option Rest) (old new : Place) (why : ClientFault)
      → Drops rest old (Err why) new → TalksTailBy fault rest old new
  left_broken fault None old new why none = absurd none
  left_broken fault (Some rest) old new why drops = (
    λ done. absurd (cc (drops.0 done).0),
    λ number start text now.
        let bad = drops.1 number start text now in
        let got = got_under number start old new rest text (Err why) drops now in (
          Err why,
          stopped_first (retr number) (turns_of_tail (tail fault)) start new why (inr (inl bad)),
          record {
            said = [];
            gained = got.0;
            sent = silent_rest number start old new rest text (Err why) now bad ∙ sym (append-nil old.link.sent);
            got = got.1;
            front = (asking (turns_of_tail (tail fault)), refl);
          },
        ),
  )

-- ---- how many calls of its link are refused

-- after what went well
pub before_cut : (a b c : Link) (cut : Cut) → RefusesNone a b → RefusesBefore b cut c → RefusesBefore a cut c
before_cut a b c _ first (inl same) = inl (cc)
before_cut a b c _ first (inr (up, none, nothing)) = inr (cc, none, nothing)

pub till_cut : (a b c : Link) (result : Result (Unit {0}) Cut) → RefusesNone a b → RefusesTillCut b result c → RefusesTillCut a result c
till_cut a b c (Ok _) first same = cc
till_cut a b c (Err cut) first then = before_cut a b c _ first then

-- a fault of the conversation: after a refused call nothing is said
pub cut_by : (fault : ClientFault) (old new : Link) → Tallies (is_link_refusal fault) old.failures new.failures
    → RefusesBefore old (cut_of (fault_of fault) None) new
cut_by ReadFailed _ _ up = inr (up, refl, refl)
cut_by WriteFailed _ _ up = inr (up, refl, refl)
cut_by _ _ _ same = inl same

-- a session that was cut and left
pub left_when_cut : (cut : Cut) (a b c : Link) (outcome : Outcome) → outcome ≡ WasCut cut.fault → RefusesBefore a cut b
    → RefusesAtMostOne b c → (cut.rest ≡ None → tail cut.fault ≡ Nothing → RefusesNone b c) → RefusesByOutcome a outcome c
left_when_cut _ a b c _ is before left silent =
    rw is (elim before [
      | inl same ↦ ⊎_elim (λ is. inl (cc)) (λ up. inr (cc)) left
      | inr (up, none, nothing) ↦ inr (silent none nothing ∙ up)
    ])

-- ---- how much a session takes from its link

pub took_on : {m n : ℕ} {a b c : Place} → Took m a b → Took n b c → Took (m + n) a c
took_on first then = record {
  gained = first.gained ++ then.gained;
  got = simp (then.got, first.got, append_assoc);
  within = omega (arith, length-append {A = ℕ}, first.within, then.within);
}

pub took_nothing : {a : Place} → Took 0 a a
took_nothing {a} = record { gained = []; got = sym (append-nil a.link.got); within = omega arith }

pub took_less : {m n : ℕ} {a b : Place} → Took m a b → m ≤ n → Took n a b
took_less took less = record { gained = took.gained; got = took.got; within = omega (arith, took.within) }

-- ---- a cut, with or without a reply under way

before_on : (limit m n : ℕ) (a b c : Place) (rest : Option Rest) → m + n ≤ limit → Took m a b → TookBefore n b rest c
    → TookBefore limit a rest c
before_on _ m n a b c None less first then = took_less (took_on first then) less
before_on _ m n a b c (Some _) less first then = record {
  before = m + then.before;
  number = then.number;
  start = then.start;
  text = then.text;
  took = took_on first then.took;
  fetching = then.fetching;
  within = omega (arith, less, then.within);
}

-- after what went well
pub takes_on : (limit m n : ℕ) (a b c : Place) (result : Result (Unit {0}) Cut) → m + n ≤ limit → Took m a b
    → TookTillCut n b result c → TookTillCut limit a result c
takes_on _ m n a b c (Ok _) less first then = took_less (took_on first then) less
takes_on limit m n a b c (Err cut) less first then = before_on _ m n a b c _ less first then

-- ---- the most of tails

pub most_tail : (kind : Tail) → most_of (tail_turns kind) ≤ tail_limit
most_tail Nothing = omega arith
most_tail _ = omega arith

-- ---- nothing is said after QUIT

no_tail_by_quit : (to : Asked) → Names to quit → tail (Refused to) ≡ Nothing
no_tail_by_quit ByQuit e = refl
no_tail_by_quit ByUser (_, e) = cc
no_tail_by_quit ByPass (_, e) = cc
no_tail_by_quit _ e = cc

quit_tail : (fault : ClientFault) (a b : Place) → Broke quit a b fault → tail (fault_of fault) ≡ Nothing
quit_tail _ a b (inl cut) = cc
quit_tail _ a b (inr (inr none)) = cc
quit_tail (WasRefused to) a b (inr (inl bad)) = no_tail_by_quit to bad.cause.0
quit_tail _ a b (inr (inl _)) = refl

-- ---- with what is said after a fault

pub with_tail_on : (limit m n : ℕ) (a b c : Place) (result : Result (Unit {0}) Cut) → m + n ≤ limit → Took m a b
    → TookWithTail n b result c → TookWithTail limit a result c
with_tail_on _ m n a b c (Ok _) less first then = took_less (took_on first then) less
with_tail_on _ m n a b c (Err cut) less first (before, then, small) =
    (m + before, before_on _ m _ a b c _ (omega arith) first then, omega (arith, less, small))

-- a session that was brought to its end
pub ended_within : (messages : ℕ) (link : Link) (last : Place)
    → Took (opening_limit + (messages * step_limit + tail_limit)) (at link []) last → length last.waiting ≤ tail_limit
    → GotAtMost (session_limit messages) link last.link
ended_within _ _ _ took short = (took.gained, took.got, omega (arith, took.within, short))

-- a text that was asked for, and is under way or at its end
pub took_fetching : (number : ℕ) (start new : Place) (rest : Rest) (text : List ℕ)
    → Fetching (retr number) start new rest text → Took (line_limit + text_limit) start new
took_fetching _ _ _ _ _ is = record {
  gained = is.opened.gained ++ is.under.gained;
  got = simp (is.under.drew.got, is.opened.got, append_assoc);
  within = omega (arith, length-append {A = ℕ}, ap length is.opened.heard, ap length is.under.heard, is.under.sizes, is.opened.short);
}

-- ---- conversations

module _ (paced : ConversationsArePaced) where
  took_talks : (turns : List Turn) (old new : Place) (result : Result (Unit {0}) ClientFault)
      → Talks turns old result new → Took (most_of turns) old new
  took_talks turns old new result talks = let p = paced turns old new result talks
      in record { gained = p.gained; got = p.got; within = p.within }

  pub took_talked : {turns : List Turn} {replies : List WholeReply} {old new : Place} → Talked turns replies old new
      → Took (most_of turns) old new
  took_talked {turns} {replies} {old} {new} talked = took_talks turns old new (Ok tt) (replies, talked)

  pub took_broke : (turn : Turn) (old new : Place) (why : ClientFault) → Broke turn old new why → Took (most_of (turn ∷ [])) old new
  took_broke turn old new why broke = took_talks (turn ∷ []) old new (Err why) (stopped_first turn [] old new why broke)

  pub took_completing : (turn : Turn) (old new : Place) (result : Result (Unit {0}) ClientFault)
      → Completes turn old result new → Took (most_of (turn ∷ [])) old new
  took_completing turn old new (Ok done) completes = took_talked completes.1
  took_completing turn old new (Err why) broke = took_broke turn old new why broke

  pub took_entering : (name password : List ℕ) (old new : Place) (result : Result (List Item) ClientFault)
      → Enters name password old result new → Took opening_limit old new
  took_entering name password old new (Ok items) (count, uids, sizes, opened, joins) = took_talked opened.talked
  took_entering name password old new (Err fault) enters =
      elim enters [
        | inl stopped ↦ took_talks (opening name password) old new (Err fault) stopped
        | inr (inl (is, (count, uids, sizes, opened, joins))) ↦ took_talked opened.talked
        | inr (inr (is, (count, uids, sizes, opened))) ↦ took_talked opened.talked
      ]

  -- QUIT, and nothing after it
  pub quit_broke : (old new : Place) (fault : ClientFault) → Broke quit old new fault
      → TookWithTail line_limit old (Err (cut_of (fault_of fault) None)) new
  quit_broke old new fault broke = (
    line_limit,
    took_broke quit old new fault broke,
    omega (
      arith,
      ap (λ (k : Tail). most_of (tail_turns k)) (quit_tail fault old new broke),
    ),
  )

  -- a text that was asked for
  pub takes_stopped : (number : ℕ) (start : Place) (text : List ℕ) (new : Place) (fault : Fault) (rest : Option Rest)
      → StopsReading number start text fault rest new → TookBefore (line_limit + text_limit) start rest new
  takes_stopped number start text new fault None (why, is, broke) = took_broke (retr number) start new why broke
  takes_stopped number start text new fault (Some rest) reads =
      record { before = 0; number = number; start = start; text = text; took = took_nothing; fetching = reads.0; within = omega arith }

  -- ---- whole sessions

  -- what is left of a reply under way is dropped, and the tail said
  pub took_leaving : (limit : ℕ) (fault : Fault) (rest : Option Rest) (old mid last : Place)
      → TookBefore limit old rest mid → TalksTailBy fault rest mid last → Took (limit + most_of (tail_turns (tail fault))) old last
  took_leaving _ fault None _ mid last took left = took_on took (took_talks _ _ _ _ left.1)
  took_leaving _ fault (Some _) _ _ last so_far left =
      let said = left.1 so_far.number so_far.start so_far.text so_far.fetching in
      let all : Took (most_of (retr so_far.number ∷ tail_turns (tail fault))) so_far.start last = took_talks _ _ _ _ said.1 in
      took_less (took_on so_far.took all) (omega (arith, so_far.within))

  -- a text that was to be kept whole
  pub takes_held : (number : ℕ) (start : Place) (cut : Cut) (new : Place) → TakesText number start (Err cut) new
      → TookTillCut (line_limit + text_limit) start (Err cut) new
  takes_held number start _ new (none, why) =
      rw none (elim why [
        | inl (fault, is, broke) ↦ took_broke _ _ _ _ broke
        | inr (wants, (rest, text, fetching)) ↦ took_fetching _ _ _ _ _ fetching
      ])
