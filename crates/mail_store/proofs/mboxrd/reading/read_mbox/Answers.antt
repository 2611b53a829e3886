use Rattle.std.proofs.{Common.{ℕ, ◌++◌, map, refl, sym, ◌∙◌, arith, append_assoc, Vec, Global}, lemmas.List.map_push}
use Rattle.mail_store.{
  specs.Mboxrd.group_text,
  proofs.MboxLemmas.{adds_group, agrees, group_of, group_of_bytes, holds_group, inner_lines, joined, joined_whole},
}
use Rattle.mail_store.proofs.mboxrd.reading.read_mbox.Goals as goal

pub returns-in_default : goal.returns-in_default
returns-in_default c = λ others file.
    let more = (c.loop-rest.invariant.later others file).1 in
    let same = agrees c.loop-rest.rest.now c.cut_group.result.0.now c.cut_group.result.1.now more.groups
    c.cut_group.ensures.cuts (omega arith) more.are more.whole in
    let ((begins, inner), _) = same.are in
    c.in_default.ensures.none (joined same.first.lines) (record {
      head = same.first.head;
      begins = begins;
      whole = joined_whole same.first.lines (inner_lines same.first.lines inner);
      split = same.bytes;
    })

pub loop-rest-preserved : goal.loop-rest-preserved
loop-rest-preserved c =
    let was = c.loop-rest.invariant in
    let cut = c.cut_group.ensures.cuts in
    let group = c.cut_group.result.0.now in
    let after = c.cut_group.result.1.now in
    let text = c.in-Some.quoted.now in
    let held = c.in-Some.ensures.found in
    rw (
      c.in_ok-push.ensures.items,
      map_push (λ (text : Vec ℕ Global). text.items) c.loop-rest.texts.items c.in_ok-unquote.field-0,
      c.in_ok-unquote.ensures,
    ) (record {
      front = was.front ++ group;
      split = was.split ∙ rw (cut.0.whole, append_assoc was.front group after) refl;
      read = rw (group_of_bytes held.head text ∙ sym held.split) at (adds_group was.front _ (group_of held.head text) was.read
          (holds_group c.loop-rest.rest.now group after text cut held));
      later = λ others file.
          let more = (was.later others file).1 in
          let next = agrees c.loop-rest.rest.now group after more.groups cut (omega arith) more.are more.whole in
          (map group_text next.groups, record { groups = next.groups; are = next.are.1; whole = next.whole; read = refl });
    })
