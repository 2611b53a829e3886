use Rattle.std.proofs.Common.{[], ◌∷◌, ◌++◌, refl, sym, subst, ◌∙◌, arith, append_assoc}
use Rattle.mail_store.{specs.Mboxrd.{lines_of, IsApart, OpensEntry}, proofs.MboxLemmas.front_taken}
use Rattle.mail_terms.proofs.ListLemmas.{all_append}
use Rattle.mail_store.proofs.mboxrd.reading.cut_group.Goals as goal

pub loop-line-init : goal.loop-line-init
loop-line-init c =
    let line = c.cut_line.result.0.now in
    let cut = c.cut_line.ensures.cuts in
    (c.cut_line.ensures.shorter, line, record { head = line; inner = []; lines = cut.lines; apart = tt; whole = cut.whole })

pub loop-line-preserved : goal.loop-line-preserved
loop-line-preserved c =
    let line = c.cut_line-in-loop-line.result.0.now in
    let after = c.cut_line-in-loop-line.result.1.now in
    let cut = c.cut_line-in-loop-line.ensures.cuts in
    let front = c.loop-line.invariant.1 in
    let was = c.loop-line.invariant.2 in (
      omega arith,
      front ++ line,
      record {
        head = was.head;
        inner = was.inner ++ line ∷ [];
        lines = was.lines ∙ rw (cut.lines, append_assoc was.inner (line ∷ []) (lines_of after)) refl;
        apart = all_append IsApart was.inner (line ∷ []) was.apart (sym c.begins_entry.ensures ∙ c.if-begins_entry.false, tt);
        whole = was.whole ∙ rw (cut.whole, append_assoc front line after) refl;
      },
    )

pub returns-then-begins_entry-clause-cuts : goal.returns-then-begins_entry-clause-cuts
returns-then-begins_entry-clause-cuts c =
    let was = c.loop-line.invariant.2 in
    let parts = front_taken c.args.bytes.now c.loop-line.invariant.1 c.loop-line.rest.now was.whole in
    rw (c.split_at.ensures.back, parts.1, c.split_at.ensures.front, parts.0)
    (was, subst OpensEntry (sym c.cut_line-in-loop-line.ensures.cuts.lines) (sym c.begins_entry.ensures ∙ c.if-begins_entry.true))
