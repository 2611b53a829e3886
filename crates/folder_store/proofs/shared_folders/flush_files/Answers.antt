use Rattle.std.proofs.{
  Common.{Ok, arith, inl, inr, map, sym, ◌∙◌},
  lemmas.Result.err_from_is_err_and,
}
use Rattle.std.specs.Prelude.{string_bytes}
use Rattle.mail_terms.proofs.ErrLemmas.{is_err}
use Rattle.folder_store.{
  specs.SharedCalls.{FlushesPass, IsSame, borrowed_texts},
  proofs.Sharing.{did_none, did_on, left_eight, left_next},
}
use Rattle.folder_store.proofs.shared_folders.flush_files.Goals as goal

pub returns-in_err-left-clause-flushes : goal.returns-in_err-left-clause-flushes
returns-in_err-left-clause-flushes g c =
    let p = err_from_is_err_and c.from_residual.result c.from_residual.ensures.1 in
    rw p.1 (λ s. (s, did_none (g.S.SharedCalls.shared c.args.calls.now), inr (inl p.2.1)))

pub loop-init : goal.loop-init
loop-init g c = (
  λ none. omega (arith, none),
  λ s. (s, did_none (g.S.SharedCalls.shared c.args.calls.now), c.in_ok-left.ensures),
)

pub returns-in_err-left-2-clause-flushes : goal.returns-in_err-left-2-clause-flushes
returns-in_err-left-2-clause-flushes g c =
    rw (is_err c.from_residual-in_err-left-2.result c.from_residual-in_err-left-2.ensures.1) (λ s.
    let pass = c.in_err-left-2.ensures s in
    let so_far = c.loop.invariant.1 pass.0 in (
      so_far.0,
      did_on IsSame (g.S.SharedCalls.shared c.args.calls.now) (g.S.SharedCalls.shared c.loop.calls)
          (g.S.SharedCalls.shared c.flush_pass.new.self) so_far.1 pass.1,
      inl pass.2,
    ))

pub returns-then-is_empty-clause-flushes : goal.returns-then-is_empty-clause-flushes
returns-then-is_empty-clause-flushes g c = λ s.
    let pass = c.in_ok-left-2.ensures s in
    let so_far = c.loop.invariant.1 pass.0 in
    let none = sym c.is_empty.ensures ∙ c.if-is_empty.true in (
      so_far.0,
      rw none at (did_on (FlushesPass c.args.stems.now (Ok c.in_ok-left-2.left)) (g.S.SharedCalls.shared c.args.calls.now)
          (g.S.SharedCalls.shared c.loop.calls) (g.S.SharedCalls.shared c.flush_pass.new.self) so_far.1 pass.1),
      tt,
    )

pub loop-preserved : goal.loop-preserved
loop-preserved g c =
    let some = sym c.is_empty.ensures ∙ c.if-is_empty.false in (
      λ _. grind (arith, some),
      λ s.
          let pass = c.in_ok-left-2.ensures s in
          let so_far = c.loop.invariant.1 pass.0 in (
            so_far.0,
            rw some at (did_on (FlushesPass c.args.stems.now (Ok c.in_ok-left-2.left)) (g.S.SharedCalls.shared c.args.calls.now)
                (g.S.SharedCalls.shared c.loop.calls) (g.S.SharedCalls.shared c.flush_pass.new.self) so_far.1 pass.1),
            left_next (g.S.SharedCalls.was_left c.flush_pass.new.self) (map string_bytes c.args.stems.now) c.loop.counter
                (borrowed_texts c.in_ok-left-2.left.items) (pass.2 c.loop.counter (rw c.deref.ensures.value so_far.2)),
          ),
    )

pub returns-then-may_miss-clause-flushes : goal.returns-then-may_miss-clause-flushes
returns-then-may_miss-clause-flushes g c = λ s.
    let so_far = c.loop.invariant.1 s in (
      so_far.0,
      so_far.1,
      (
        c.if-may_miss.true,
        left_eight (g.S.SharedCalls.was_left c.loop.calls) (map string_bytes c.args.stems.now) c.loop.counter c.loop.left
            (grind arith) c.loop.invariant.0 so_far.2,
      ),
    )

pub returns-clause-flushes : goal.returns-clause-flushes
returns-clause-flushes g c = λ s.
    let so_far = c.loop.invariant.1 s in (
      so_far.0,
      so_far.1,
      inr (inr (
        c.if-may_miss.false,
        left_eight (g.S.SharedCalls.was_left c.loop.calls) (map string_bytes c.args.stems.now) c.loop.counter c.loop.left
            (grind arith) c.loop.invariant.0 so_far.2,
      )),
    )
