use Rattle.std.proofs.Common.{ℕ, List, subst, Err, rules, take, refl, None}
use Rattle.pop3_wire.{specs.Place.at, proofs.LinkLemmas.{and_then, and_then_two}}
use Rattle.pop3_client.{
  specs.{Client.place_of, Turns.stat, Conversation.GivesFew},
  proofs.TalkLemmas.{stat_bytes, sent_for, opened, broke_saying, broke_there, few_heard, talked_line},
}
use Rattle.mail_terms.proofs.ErrLemmas.{err_is}
use Rattle.pop3_client.proofs.client.Client.count.Goals as goal

pub returns-in_err-say-clause-counts : goal.returns-in_err-say-clause-counts
returns-in_err-say-clause-counts g c = search (rules, stat_bytes, broke_saying)

pub returns-in_err-length-clause-counts : goal.returns-in_err-length-clause-counts
returns-in_err-length-clause-counts g c = search (rules, stat_bytes, sent_for, broke_there)

pub returns-clause-counts : goal.returns-clause-counts
returns-clause-counts g c =
    let old = place_of g.W.Wire c.args.self.now in
    let here = place_of g.W.Wire c.hear.new.self in
    let gives = rw c.waiting.ensures.value at c.in_ok-count.ensures in
    and_then_two g.W.Wire g.met.W.Wire.leads_on c.in_ok-say.ensures.sent c.in_ok-length.ensures.heard c.tell.ensures.kept
    (λ said hears same.
    let heard = rw c.in_ok-say.ensures.silent at (hears stat refl) in
    let begun = opened {old = old} stat said stat_bytes (heard.0, heard.1, heard.2, heard.3, (gives.0, gives.2))
    (λ is. (c.in_ok-count.count, gives.1, gives.3, gives.4)) in rw same (
      record { first = take c.in_ok-length.length here.waiting; body = None },
      talked_line stat _ old (at here.link c.skip.new.self) (rw (← c.skip.ensures) at begun) refl,
      (gives.0, gives.1, gives.2, gives.3),
    ))

pub returns-in_err-count-clause-counts : goal.returns-in_err-count-clause-counts
returns-in_err-count-clause-counts g c =
    let old = place_of g.W.Wire c.args.self.now in
    let fault = c.in_err-count.field-0.0 in
    rw (err_is c.from_residual-in_err-count.ensures.1)
    (and_then g.W.Wire g.met.W.Wire.leads_on c.in_ok-say.ensures.sent c.in_ok-length.ensures.heard (λ said hears.
    let heard = rw c.in_ok-say.ensures.silent at (hears stat refl) in
    broke_there stat old _ (place_of g.W.Wire c.hear.new.self) fault (sent_for stat old.link _ _ said stat_bytes)
    (few_heard heard.1 heard.2 fault (subst (λ (l : List ℕ). GivesFew (take c.in_ok-length.length l) (Err fault))
    c.waiting.ensures.value c.in_err-count.ensures))))
