use Rattle.std.proofs.Common.{ap, inr, Ok, Err, ◌∙◌}
use Rattle.mail_store.{
  specs.declared.{file.flat_file.Edges.Edges, fault.StoreFault.TheVariants.Refused},
  proofs.{DiskLemmas.all_seen, EntryLemmas.{still_has, undone}},
}
use Rattle.mail_store.proofs.mboxrd.entry.append_owned.Goals as goal

pub cut_to-requires : goal.cut_to-requires
cut_to-requires g c = λ sound.
    let (before, appends) = c.in-Err.ensures.appends sound in
    let (_, ((was, has, is), looks)) = c.in_ok-edges.ensures.looks before in
    rw (ap (λ (e : Edges). e.size) is) (still_has (g.F.FlatFile.disk c.look_at.new.file) (g.F.FlatFile.disk c.append.new.self)
    was _ c.in-Err.fault appends
    (all_seen (g.F.FlatFile.disk c.args.file.now) (g.F.FlatFile.disk c.look_at.new.file) looks ∙ has.0))

pub returns-in-Ok-cut_to-clause-appends : goal.returns-in-Ok-cut_to-clause-appends
returns-in-Ok-cut_to-clause-appends g c = λ sound.
    let (between, cuts) = c.in-Ok-cut_to.ensures.cuts sound in
    let (before, appends) = c.in-Err.ensures.appends between in
    let (first, ((was, has, is), looks)) = c.in_ok-edges.ensures.looks before in (
      first,
      rw c.in-Err.ensures.fault (inr (undone {T = Unit {0}} (g.F.FlatFile.disk c.args.file.now) (g.F.FlatFile.disk c.look_at.new.file)
          (g.F.FlatFile.disk c.append.new.self) (g.F.FlatFile.disk c.cut_to.new.self) was c.args.text.items c.deref.result.now
          c.in_ok-edges.edges.size c.in-Err.fault (Ok tt) has looks (c.deref.ensures.value ∙ c.in_ok-make_entry.ensures.entry)
          (ap (λ (e : Edges). e.size) is) appends cuts)),
    )

pub returns-clause-appends : goal.returns-clause-appends
returns-clause-appends g c = λ sound.
    let (between, cuts) = c.in-Err-cut_to.ensures.cuts sound in
    let (before, appends) = c.in-Err.ensures.appends between in
    let (first, ((was, has, is), looks)) = c.in_ok-edges.ensures.looks before in (
      first,
      undone {T = Unit {0}} (g.F.FlatFile.disk c.args.file.now) (g.F.FlatFile.disk c.look_at.new.file)
          (g.F.FlatFile.disk c.append.new.self) (g.F.FlatFile.disk c.cut_to.new.self) was c.args.text.items c.deref.result.now
          c.in_ok-edges.edges.size c.in-Err.fault (Err Refused) has looks
          (c.deref.ensures.value ∙ c.in_ok-make_entry.ensures.entry)
          (ap (λ (e : Edges). e.size) is) appends cuts,
    )
