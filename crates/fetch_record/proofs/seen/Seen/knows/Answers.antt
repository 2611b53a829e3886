use Rattle.std.proofs.{
  Common.{◌≡◌, ◌<◌, ◌∙◌, ℕ, List, length, refl, get_or, sym, arith, true, false, All, Decides},
  lemmas.{Bool.true≢false, List.Elements.AllWithin-more},
}
use Rattle.mail_terms.{specs.Listing.Item, proofs.IdLemmas.nobody}
use Rattle.fetch_record.specs.Record.{Row, is_delivered}
use Rattle.fetch_record.proofs.seen.Seen.knows.Goals as goal

one_unknown : (rows : List Row) (listing : List Item) (i : ℕ) → i < length listing → is_delivered rows (get_or listing i nobody).uid ≡ false
    → Decides false (All (λ item. is_delivered rows item.uid ≡ true) listing)
one_unknown rows listing i inside unknown =
    (λ no. absurd (true≢false (sym no)), λ all. absurd (true≢false (sym (all i nobody inside) ∙ unknown)))

pub returns-then-not-is_delivered-clause-known : goal.returns-then-not-is_delivered-clause-known
returns-then-not-is_delivered-clause-known g c = one_unknown c.args.self.now.rows c.args.listing.now c.loop-i.i
    (omega (arith, c.loop-i-test.true, c.len-i-end.ensures.count))
    (rw (← c.uid.ensures.value nobody, ← c.self.view_is) (sym c.is_delivered.ensures ∙ c.if-not-is_delivered.true))

pub loop-i-preserved : goal.loop-i-preserved
loop-i-preserved g c = AllWithin-more (λ item. is_delivered c.args.self.now.rows item.uid ≡ true) c.args.listing.now 0
    c.loop-i.i c.loop-i.invariant
    (λ d. rw (← c.uid.ensures.value d, ← c.self.view_is) (sym c.is_delivered.ensures ∙ c.if-not-is_delivered.false))

pub returns-clause-known : goal.returns-clause-known
returns-clause-known g c = (
  λ yes k d inside. c.loop-i.invariant k d (omega arith) (omega (arith, inside, c.loop-i-test.false, c.len-i-end.ensures.count)),
  λ all. refl,
)
