use Rattle.std.proofs.{
  Common.{◌≡◌, length, map, Some, Option, List, is_some, ◌∙◌, ap, arith, rules},
  lemmas.{List.Elements.filter_from_retain, Simd.map-map},
}
use Rattle.pop3_wire.specs.World.{Message}
use Rattle.pop3_server.{specs.Maildrop.{DropMail, there, listed_message}, proofs.SlotLemmas.{there_map, filter_there}}
use Rattle.pop3_server.proofs.memory_drop.MemoryDropMaildrop.entries.Goals as goal

kept_is : (c : goal.After-retain) → c.retain.new.self.items ≡ map (λ m. Some m) (there c.self.inside.slots.items)
kept_is c = filter_from_retain _ is_some (λ p x b q h. search rules) _ _ _ c.retain.ensures.filtered
    ∙ filter_there c.self.inside.slots.items

pub invariant_of-self : goal.invariant_of-self
invariant_of-self c = (
  rw (kept_is c, there_map) c.self.invariant.0,
  omega (
    arith,
    ap (λ s. length (there s)) (kept_is c),
    ap length (there_map (there c.self.inside.slots.items)),
    c.self.invariant.1,
  ),
)

entries_are : (c : goal.After-retain) → c.in_ok-entries.entries.items ≡ map listed_message (there c.self.inside.slots.items)
entries_are c = c.in_ok-entries.ensures ∙ ap (λ s. map listed_message (there s)) c.as_slice.ensures.value

pub returns-clause-distinct : goal.returns-clause-distinct
returns-clause-distinct c = rw (entries_are c, map-map) c.self.invariant.0

pub returns-clause-lists : goal.returns-clause-lists
returns-clause-lists c = λ s.
    let placed : List (Option Message) → DropMail = λ slots. record { slots = slots; failures = 0; removals = c.self.inside.removals } in
    let listed : DropMail → DropMail = λ m. record m { slots = map (λ x. Some x) (there m.slots) } in (
      tt,
      (
        ap placed (kept_is c) ∙ ap listed c.self.view_is,
        entries_are c ∙ ap (λ (m : DropMail). map listed_message (there m.slots)) c.self.view_is,
      ),
    )
