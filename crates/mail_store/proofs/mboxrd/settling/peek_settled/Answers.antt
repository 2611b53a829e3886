use Rattle.std.proofs.Common.{ap, Ok, ◌∙◌}
use Rattle.mail_store.{
  specs.{declared.mboxrd.settling.Behind.Behind, Durable.seen_on, Settling.TellsSettled},
  proofs.{DiskLemmas.twice_seen, PeekLemmas.{front_refuses, settled_refuses, told_err}},
}
use Rattle.mail_store.proofs.mboxrd.settling.peek_settled.Goals as goal

pub returns-in_err-peek_mbox-in-Others-clause-tells : goal.returns-in_err-peek_mbox-in-Others-clause-tells
returns-in_err-peek_mbox-in-Others-clause-tells g c = λ sound.
    let (between, (checks, seen)) = c.in_err-peek_mbox-in-Others.ensures.checks sound in
    let (first, ((was, has, behind), looks)) = c.in_ok-look_behind.ensures.looks between in
    let same = twice_seen {T = Behind} (g.F.FlatFile.disk c.args.file.now) (g.F.FlatFile.disk c.look_behind.new.file)
    (Ok c.in_ok-look_behind.field-0) looks in
    let (_, part) = rw c.in-Others.is at behind in (
      first,
      (
        told_err (TellsSettled c.args.start c.args.len c.args.listed (seen_on (g.F.FlatFile.disk c.args.file.now)))
            c.from_residual-in_err-peek_mbox-in-Others.result c.in_err-peek_mbox-in-Others.field-0.0
            c.from_residual-in_err-peek_mbox-in-Others.ensures.1
            (settled_refuses c.args.start c.args.len c.args.listed (seen_on (g.F.FlatFile.disk c.args.file.now))
            (seen_on (g.F.FlatFile.disk c.look_behind.new.file)) was c.in_err-peek_mbox-in-Others.field-0.0 same has
            part checks),
        ap seen_on seen ∙ same,
      ),
    )

pub returns-in_err-peek_mbox-in-Whole-clause-tells : goal.returns-in_err-peek_mbox-in-Whole-clause-tells
returns-in_err-peek_mbox-in-Whole-clause-tells g c = λ sound.
    let (between, (checks, seen)) = c.in_err-peek_mbox-in-Whole.ensures.checks sound in
    let (first, ((was, has, behind), looks)) = c.in_ok-look_behind.ensures.looks between in
    let same = twice_seen {T = Behind} (g.F.FlatFile.disk c.args.file.now) (g.F.FlatFile.disk c.look_behind.new.file)
    (Ok c.in_ok-look_behind.field-0) looks in
    let (_, part) = rw c.in-Whole.is at behind in (
      first,
      (
        told_err (TellsSettled c.args.start c.args.len c.args.listed (seen_on (g.F.FlatFile.disk c.args.file.now)))
            c.from_residual-in_err-peek_mbox-in-Whole.result c.in_err-peek_mbox-in-Whole.field-0.0
            c.from_residual-in_err-peek_mbox-in-Whole.ensures.1
            (settled_refuses c.args.start c.args.len c.args.listed (seen_on (g.F.FlatFile.disk c.args.file.now))
            (seen_on (g.F.FlatFile.disk c.look_behind.new.file)) was c.in_err-peek_mbox-in-Whole.field-0.0 same has part
            checks),
        ap seen_on seen ∙ same,
      ),
    )

pub returns-in_err-peek_front-in-Torn-clause-tells : goal.returns-in_err-peek_front-in-Torn-clause-tells
returns-in_err-peek_front-in-Torn-clause-tells g c = λ sound.
    let (between, (checks, seen)) = c.in_err-peek_front-in-Torn.ensures.checks sound in
    let (first, ((was, has, behind), looks)) = c.in_ok-look_behind.ensures.looks between in
    let same = twice_seen {T = Behind} (g.F.FlatFile.disk c.args.file.now) (g.F.FlatFile.disk c.look_behind.new.file)
    (Ok c.in_ok-look_behind.field-0) looks in
    let (_, part, _) = rw c.in-Torn.is at behind in (
      first,
      (
        told_err (TellsSettled c.args.start c.args.len c.args.listed (seen_on (g.F.FlatFile.disk c.args.file.now)))
            c.from_residual-in_err-peek_front-in-Torn.result c.in_err-peek_front-in-Torn.field-0.0
            c.from_residual-in_err-peek_front-in-Torn.ensures.1
            (front_refuses c.args.start c.args.len c.args.listed (seen_on (g.F.FlatFile.disk c.args.file.now))
            (seen_on (g.F.FlatFile.disk c.look_behind.new.file)) was c.in_err-peek_front-in-Torn.field-0.0 same has part
            checks),
        seen ∙ same,
      ),
    )
