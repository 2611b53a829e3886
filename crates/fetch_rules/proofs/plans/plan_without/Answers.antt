use Rattle.std.{
  proofs.Common.{◌≡◌, List, map, rules, ℕ, ◌+◌, Bool, true, false, ◌&&◌, ◌∙◌, ap, inl, inr, arith, refl, cond, get_or, Option, Some, None},
  proofs.Common.not,
  proofs.lemmas.Bool.cases_Bool,
  specs.Prelude.{is_none, is_some},
}
use Rattle.fetch_rules.{
  specs.{declared.plans.Skip.Skip, Wanted.skip_for, Due.may_delete, Plan.{seen_since, is_deleted}},
  proofs.PlanLemmas.{never_due, HasPlanned-more, HasPlanned-all, flags_count, flag_at, odd_at},
}
use Rattle.mail_terms.specs.Listing.{Item, is_first, is_last}
use mir.Val.{bool_byte}
use Rattle.fetch_rules.proofs.plans.plan_without.Goals as goal

byte_of : (b : Bool) → bool_byte b ≡ cond b 1 0
byte_of true = refl
byte_of false = refl

none_by : (skip : Option Skip) (none : Bool) → is_some skip ≡ not none → none ≡ is_none skip
none_by None true is = refl
none_by None false is = is
none_by (Some why) true is = is
none_by (Some why) false is = refl

pub index-first-requires : goal.index-first-requires
index-first-requires g c =
    omega (
      arith,
      flags_count (is_first c.args.listing.now) c.args.listing.now c.in_ok-firsts.firsts.items c.in_ok-firsts.ensures,
    )

pub index-requires : goal.index-requires
index-requires g c = omega (arith, c.in_ok-lasts.ensures.count)

first : (g : _) (c : goal.After-from-fetched g) (item : Item)
    → c.index-first.result.now ≡ is_first c.args.listing.now (c.loop-i.i + 1, get_or c.args.listing.now c.loop-i.i item)
first g c = flag_at (is_first c.args.listing.now) c.args.listing.now c.in_ok-firsts.firsts.items c.loop-i.i
    c.index-first.result.now c.in_ok-firsts.ensures (omega arith) c.index-first.ensures

alone : (g : _) (c : goal.After-from-fetched g) (item : Item) → may_delete c.args.settings.now ≡ true
    → (c.index-first.result.now && c.index.result.now)
    ≡ (is_first c.args.listing.now (c.loop-i.i + 1, get_or c.args.listing.now c.loop-i.i item) && is_last
    c.args.listing.now (c.loop-i.i + 1, get_or c.args.listing.now c.loop-i.i item))
alone g c item asked = rw (
  first g c item,
  flag_at (is_last c.args.listing.now) c.args.listing.now
      c.in_ok-lasts.lasts.items c.loop-i.i c.index.result.now (c.in_ok-lasts.ensures.flags asked) (omega arith) c.index.ensures item,
) refl

skip : (g : _) (c : goal.After-from-fetched g) (is_odd : List ℕ → Bool)
    → c.args.odd.now ≡ map (λ (item : Item). is_odd item.uid) c.args.listing.now
    → (item : Item) → c.skip_for-skip.result ≡ skip_for c.args.settings.now is_odd c.args.seen.now.rows
    (is_first c.args.listing.now (c.loop-i.i + 1, get_or c.args.listing.now c.loop-i.i item)) c.is_full-full.result
    (get_or c.args.listing.now c.loop-i.i item)
skip g c is_odd are item = c.skip_for-skip.ensures ∙ rw (
  c.own_skip-own.ensures item,
  odd_at is_odd c.args.listing.now c.args.odd.now c.loop-i.i false are (omega arith) item,
  first g c item,
) refl

deleted : (g : _) (c : goal.After-from-fetched g) (item : Item)
    → (c.is_done_with.result && (c.index-first.result.now && c.index.result.now))
    ≡ is_deleted c.args.settings.now c.args.seen.now.rows c.args.listing.now c.args.now c.skip_for-skip.result
    (c.loop-i.i + 1, get_or c.args.listing.now c.loop-i.i item)
deleted g c item = rw (c.is_done_with.ensures item) (elim (cases_Bool (may_delete c.args.settings.now)) [
  | inl asked ↦ rw (alone g c item asked) refl
  | inr never ↦ rw (never_due c.args.settings.now c.args.now
      (seen_since c.args.seen.now.rows (get_or c.args.listing.now c.loop-i.i item).uid c.args.now) never) refl
])

pub loop-i-init : goal.loop-i-init
loop-i-init g c = record {
  few = omega arith;
  has = λ is_odd are. record { steps_are = search rules; count = inl refl; few = omega arith };
}

pub loop-i-preserved : goal.loop-i-preserved
loop-i-preserved g c =
    let next_is = ap (λ (k : ℕ). c.loop-i.fetched + k) (c.from-fetched.ensures ∙ byte_of c.is_none.result
    ∙ ap (λ (b : Bool). cond b 1 0) (none_by c.skip_for-skip.result c.is_none.result c.is_none.ensures)) in
    rw c.in_ok-push.ensures.items (record {
      few = grind (arith, c.loop-i.invariant.few, next_is);
      has = λ is_odd are. HasPlanned-more _ is_odd _ _ _ _ _ _ c.is_full-full.result c.skip_for-skip.result _ _
          (c.loop-i.invariant.has is_odd are) (omega arith) c.is_full-full.ensures (skip g c is_odd are)
          (deleted g c) next_is;
    })

pub returns : goal.returns
returns g c = λ is_odd are. HasPlanned-all _ is_odd _ _ _ _ _ _ (c.loop-i.invariant.has is_odd are) (omega arith)
