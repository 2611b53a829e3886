use Rattle.std.proofs.{
  Common.{◌≡◌, take, sym, ◌∙◌, arith, subst, refl, Contains, append-nil, inl, inr},
  lemmas.{Bool.false≢true, List.{map-append, Elements.Contains-push_cases}, Grind.common_steps},
}
use Rattle.pop3_server.{
  specs.Maildrop.ids,
  proofs.{SlotLemmas.{Contains-slot, there_more}, memory_drop.has_id.Goals.{in-None, in-Some+else-is}},
}
use Rattle.pop3_server.proofs.memory_drop.has_id.Goals as goal

pub returns-then-is : goal.returns-then-is
returns-then-is c = (
  λ _. subst (λ u. Contains (ids c.args.slots.now) u) (c.is.ensures.0 c.if-is.true)
      (Contains-slot c.args.slots.now c.loop-slot.slot-index _ c.in-Some.message c.loop-slot-test.true c.slot-item.is c.in-Some.is),
  λ _. refl,
)

pub loop-slot-preserved : goal.loop-slot-preserved
loop-slot-preserved c = λ h.
    let more = there_more c.args.slots.now c.loop-slot.slot-index _ c.loop-slot-test.true c.slot-item.is in
    elim c.match-slot.branch [
      | in-None w ↦ c.loop-slot.invariant (rw (more, w.in-None.is, append-nil) at h)
      | in-Some+else-is w ↦ elim (Contains-push_cases _ _ _ (rw (more, w.in-Some.is, map-append) at h)) [
        | inl old ↦ c.loop-slot.invariant old
        | inr same ↦ absurd (false≢true (sym w.if-is.false ∙ w.is.ensures.1 same))
      ]
    ]

pub returns : goal.returns
returns c = (
  λ h. absurd (false≢true h),
  λ h. absurd (let all : take c.loop-slot.slot-index c.args.slots.now ≡ c.args.slots.now = grind (arith, common_steps)
      in c.loop-slot.invariant (subst (λ s. Contains (ids s) c.args.uid.now) (sym all) h)),
)
