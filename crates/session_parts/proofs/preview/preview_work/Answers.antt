use Rattle.session_parts.{
  proofs.{TalkLemmas.err_is, ReadyLemmas.{told_of, untaken}, SessionLemmas.{not_looked, record_unread, memory_ran_out, work_preview}},
  specs.Target.target_of,
}
use Rattle.session_parts.proofs.preview.preview_work.Goals as goal

pub returns-clause-previews : goal.returns-clause-previews
returns-clause-previews g c = λ d f.
    let (sound, (stood, _, same)) = c.in_ok-read.ensures.reads f in
    told_of (c.in_ok-found.ensures.looks d) sound (λ left is.
    work_preview c.args.terms.settings.now (target_of c.args.work.now.store c.args.terms.account.now) c.args.listing.now
    c.args.terms.now _ _ _ c.read.new.seen _ c.in_ok-found.found _ stood same is c.in_ok-preview_merged.ensures)

pub returns-in_err-read-clause-previews : goal.returns-in_err-read-clause-previews
returns-in_err-read-clause-previews g c = rw (err_is c.from_residual.ensures.1) (λ d f.
    let reads = c.in_err-read.ensures.reads f in (
      d,
      reads.0,
      untaken _ (record_unread c.args.terms.settings.now
          (target_of c.args.work.now.store c.args.terms.account.now) c.args.listing.now c.args.terms.now _ _ _ c.read.new.seen _ reads.1),
    ))

pub returns-in_err-found-clause-previews : goal.returns-in_err-found-clause-previews
returns-in_err-found-clause-previews g c = λ d f.
    let (safe, (left, taken, is)) = c.in_err-found.ensures.looks d in
    let (sound, (stood, _, same)) = c.in_ok-read.ensures.reads f in (
      safe,
      sound,
      (
        left,
        taken,
        rw (err_is c.from_residual-in_err-found.ensures.1)
            (not_looked c.args.terms.settings.now (target_of c.args.work.now.store c.args.terms.account.now)
            c.args.listing.now c.args.terms.now _ _ _ c.read.new.seen _ _ stood same is),
      ),
    )

pub returns-in_err-preview_merged-clause-previews : goal.returns-in_err-preview_merged-clause-previews
returns-in_err-preview_merged-clause-previews g c = rw (err_is c.from_residual-in_err-preview_merged.ensures.1) (λ d f.
    let (sound, (_, _, same)) = c.in_ok-read.ensures.reads f in
    told_of (c.in_ok-found.ensures.looks d) sound (λ left is.
    memory_ran_out c.args.terms.settings.now (target_of c.args.work.now.store c.args.terms.account.now) c.args.listing.now
    c.args.terms.now _ _ _ c.read.new.seen.intent _ c.in_ok-found.found same is))

pub preview_merged-requires : goal.preview_merged-requires
preview_merged-requires g c = let (length, (by, _)) = c.in_ok-found.ensures.flags in (length, by)
