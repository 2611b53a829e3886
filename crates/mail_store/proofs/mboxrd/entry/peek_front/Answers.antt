use Rattle.std.proofs.{Common.{◌≡◌, ◌-◌, ap, take, sym, ◌∙◌, arith}, lemmas.{Bool.true≢false, List.length-take-le, Option.same_Some}}
use Rattle.mail_store.{specs.Durable.seen_on, proofs.{DiskLemmas.all_seen, MboxLemmas.{few_are_other, read_whole}}}
use Rattle.mail_store.proofs.mboxrd.entry.peek_front.Goals as goal

pub returns-then-size-clause-checks : goal.returns-then-size-clause-checks
returns-then-size-clause-checks g c = λ d.
    let (sound, (_, same)) = c.in_ok-edges.ensures.peeks d in
    let (was, is, within) = c.requires sound in
    let few = few_are_other (take c.args.size was) c.args.size (sym (length-take-le c.args.size was within)) c.if-size-eq0.false
    c.if-size.true in (sound, ((was, is, few), ap seen_on same))

pub returns-then-not-may_go_on-clause-checks : goal.returns-then-not-may_go_on-clause-checks
returns-then-not-may_go_on-clause-checks g c = λ d.
    let (between, (reads, seen)) = c.in_ok-read_at.ensures.reads d in
    let (sound, ((was, is, edges), same)) = c.in_ok-edges.ensures.peeks between in
    let (whole, has, size) = c.requires sound in
    let within = rw (same_Some whole was (sym has ∙ is)) at size in
    let (read, read-is, count, bytes) = rw same at reads in
    let held : read ≡ was = same_Some read was (sym read-is ∙ is) in
    let tail = read_whole (c.args.size - 2) c.in_ok-read_at.field-0 c.read_at.new.buf was
    (omega (arith, c.read_at.auto.buf)) (omega (arith, within, c.if-size.false)) (rw held at count) (rw held at bytes) in
    let ends = c.front_edges.ensures was edges within tail in (
      sound,
      (
        (was, is, λ goes. true≢false (sym ((c.may_go_on.ensures (take c.args.size was) ends).1 goes) ∙ c.if-not-may_go_on.true)),
        all_seen (g.F.FlatFile.disk c.peek_edges.new.self) (g.F.FlatFile.disk c.read_at.new.self) seen ∙ ap seen_on same,
      ),
    )

pub returns-clause-checks : goal.returns-clause-checks
returns-clause-checks g c = λ d.
    let (between, (reads, seen)) = c.in_ok-read_at.ensures.reads d in
    let (sound, ((was, is, edges), same)) = c.in_ok-edges.ensures.peeks between in
    let (whole, has, size) = c.requires sound in
    let within = rw (same_Some whole was (sym has ∙ is)) at size in
    let (read, read-is, count, bytes) = rw same at reads in
    let held : read ≡ was = same_Some read was (sym read-is ∙ is) in
    let tail = read_whole (c.args.size - 2) c.in_ok-read_at.field-0 c.read_at.new.buf was
    (omega (arith, c.read_at.auto.buf)) (omega (arith, within, c.if-size.false)) (rw held at count) (rw held at bytes) in
    let ends = c.front_edges.ensures was edges within tail in (
      sound,
      (
        (was, is, (c.may_go_on.ensures (take c.args.size was) ends).0 c.if-not-may_go_on.false),
        all_seen (g.F.FlatFile.disk c.peek_edges.new.self) (g.F.FlatFile.disk c.read_at.new.self) seen ∙ ap seen_on same,
      ),
    )
