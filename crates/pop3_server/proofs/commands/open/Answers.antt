use Rattle.std.proofs.{Common.{◌≡◌, ℕ, zero, suc, List, [], ◌∷◌, map, Some, Vec, Ok, slice_get, refl, ◌∙◌, ap, inr}, lemmas.Simd.map-map}
use Rattle.pop3_wire.specs.World.{Message}
use Rattle.pop3_server.{
  specs.declared.{rows.MessageRow.MessageRow, state.State.TheVariants.Transaction},
  specs.Maildrop.{ListedMessage, DropMail, there, listed_message, ListsMessages},
  specs.ServerMachine.{message_row, row_of_entry, Unanswered, Tied},
  proofs.SlotLemmas.there_map,
}
use Rattle.mail_terms.proofs.ErrLemmas.{err_is}
use Rattle.pop3_server.proofs.commands.open.Goals as goal

-- a row of a listing has its message
placed : (ms : List Message) (i : ℕ) (row : MessageRow) → slice_get (map message_row ms) i ≡ Some row → (m : Message)
    × (slice_get (map (λ x. Some x) ms) i ≡ Some (Some m))
placed [] i row h = cc
placed (m ∷ ms) zero row h = (m, refl)
placed (m ∷ ms) (suc i) row h = placed ms i row h

module _ {D Z : Type 0} (sound : D → Type 0) (mail : D
    → DropMail) (old new : D) (entries : Vec ListedMessage Z) (lists : sound new → sound old
    × ListsMessages (mail old) (Ok entries) (mail new)) where
  unanswered_listing : (mail new).failures ≡ (mail old).failures → (mail new).removals ≡ (mail old).removals → Unanswered sound mail old new
  unanswered_listing failures removals = record {
    failures = failures;
    removals = removals;
    messages = λ s.
        let (before, (slots, _)) = lists s in
        (before, ap (λ (m : DropMail). there m.slots) slots ∙ there_map (there (mail old).slots));
  }

  rows_are : {rows : List MessageRow} → rows ≡ map row_of_entry entries.items → sound new → rows ≡ map message_row (there (mail old).slots)
  rows_are are s =
      let (_, (_, entries-are)) = lists s in
      are ∙ ap (map row_of_entry) entries-are ∙ map-map row_of_entry listed_message (there (mail old).slots)

  tied_open : (rows : List MessageRow) → rows ≡ map row_of_entry entries.items → Tied (sound new) (mail new) (Transaction rows)
  tied_open rows are = λ s i row h.
      let (_, (slots, _)) = lists s in
      let p = placed (there (mail old).slots) i row (rw (rows_are are s) at h) in
      (p.0, ap (λ (m : DropMail). slice_get m.slots i) slots ∙ p.1)

pub returns-in_err-rows-clause-err : goal.returns-in_err-rows-clause-err
returns-in_err-rows-clause-err g c =
    rw (err_is c.from_residual-in_err-rows.ensures.1) (
      refl,
      unanswered_listing _ _ _ _ c.in-Ok.entries c.in-Ok.ensures.lists c.in-Ok.ensures.tally c.in-Ok.ensures.removes_none,
    )

pub returns-in_err-reply-clause-err : goal.returns-in_err-reply-clause-err
returns-in_err-reply-clause-err g c =
    rw (err_is c.from_residual-in_err-reply.ensures.1) (
      c.in_err-reply.ensures.err,
      unanswered_listing _ _ _ _ c.in-Ok.entries c.in-Ok.ensures.lists c.in-Ok.ensures.tally c.in-Ok.ensures.removes_none,
    )

pub returns-clause-ok : goal.returns-clause-ok
returns-clause-ok g c = λ state. rw c.go-2.ensures (record {
  removals = c.in-Ok.ensures.removes_none;
  does = inr (
    c.in_ok-rows.rows,
    c.in_ok-rows.ensures.limits,
    rw c.as_slice.ensures.value at c.in_ok-reply.ensures.ok,
    refl,
    λ s.
        let (before, (slots, _)) = c.in-Ok.ensures.lists s in (
          before,
          (
            slots,
            rows_are g.D.Maildrop.sound g.D.Maildrop.mail c.args.drop.now c.entries.new.self
                c.in-Ok.entries c.in-Ok.ensures.lists c.in_ok-rows.ensures.rows s,
          ),
        ),
  );
})

pub returns-clause-tied : goal.returns-clause-tied
returns-clause-tied g c =
    λ state. rw c.go-2.ensures (tied_open g.D.Maildrop.sound g.D.Maildrop.mail c.args.drop.now c.entries.new.self
    c.in-Ok.entries c.in-Ok.ensures.lists c.in_ok-rows.rows c.in_ok-rows.ensures.rows)
