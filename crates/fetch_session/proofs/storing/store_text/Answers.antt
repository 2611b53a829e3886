use Rattle.std.proofs.{
  Common.{⊎_elim, ◌≡◌, ◌≢◌, ℕ, List, Ok, inr, ◌<◌, ◌+◌, [], ◌++◌, length, take, arith, sym, ap, ◌∙◌, inl, is_some, string_bytes, refl},
  lemmas.Bool.false≢true,
}
use Rattle.mail_store.specs.Maildir.{Maildir, maildir_refused, draft, dropped}
use Rattle.pop3_wire.{specs.declared.unstuffer.Spot.TheVariants.Done, proofs.LinkLemmas.and_then}
use Rattle.session_parts.{
  specs.Store.{PutsBytes, begun_with},
  proofs.{TextLemmas.{dropped_none_begun, settled, longer}, TalkLemmas.{before_cut, cut_by}},
}
use Rattle.fetch_session.proofs.storing.store_text.Goals.{After-put_piece}
use Rattle.fetch_session.proofs.storing.store_text.Goals as goal

pub returns-in-Err-clause-stores : goal.returns-in-Err-clause-stores
returns-in-Err-clause-stores g c = (
  [],
  λ d. let starts = c.in-Err.ensures.starts d in (
    starts.0,
    ⊎_elim inl (λ same. inr (same.0, inl (same.1 ∙ ap maildir_refused (sym (dropped_none_begun _ (c.requires.free starts.0).none_begun)))))
        starts.1,
  ),
  λ w. (w, g.met.W.Wire.leads_same c.args.client.now.wire.now, λ number start now. (now, λ done. absurd (c.requires.open done))),
)

pub returns-in-Err-next_piece-clause-stores : goal.returns-in-Err-next_piece-clause-stores
returns-in-Err-next_piece-clause-stores g c =
    let inv = c.pieces.invariant.2 in (
      inv.0,
      λ d.
          let drops = c.abandon.ensures.drops d in
          let was = inv.2 drops.0 in
          (was.0, rw c.from.ensures (drops.1 ∙ ap dropped was.1 ∙ dropped_none_begun _ (c.requires.free was.0).none_begun)),
      and_then g.W.Wire g.met.W.Wire.leads_on inv.3 c.in-Err-next_piece.ensures.takes (λ before took number start now. rw c.from.ensures
          (c.in-Err-next_piece.fault, refl, inr (inl (took number start inv.0 (before number start now))))),
    )

pub returns-in-Err-put_piece-clause-stores : goal.returns-in-Err-put_piece-clause-stores
returns-in-Err-put_piece-clause-stores g c =
    let inv = c.pieces.invariant.2 in (
      inv.0 ++ take c.in-Ok.piece.put c.next_piece.new.out,
      λ d.
          let (sound, (fault, puts)) = c.in-Err-put_piece.ensures.puts d in
          let was = inv.2 sound in
          (was.0, inr (fault, inl ((rw was.1 at puts) (draft (string_bytes c.args.stem) inv.0) refl))),
      and_then g.W.Wire g.met.W.Wire.leads_on inv.3 c.in-Ok.ensures.takes (λ before took number start now. let more =
          took number start inv.0 (before number start now) in (more.0, λ done. more.1 (c.in-Ok.ensures.took.ended.1 done))),
    )

-- what was written, with this piece
abbrev so_far : (g : _) → After-put_piece g → List ℕ
so_far g c = let (_, _, (text, _, _, _), _, _) = c.pieces.invariant in text ++ take c.in-Ok.piece.put c.next_piece.new.out

-- the piece was appended to what was written before
put : (g : _) (c : After-put_piece g) → g.D.MaildirDisk.sound c.pieces.disk
    × PutsBytes (g.D.MaildirDisk.maildir c.pieces.disk) (take c.in-Ok.piece.put c.next_piece.new.out) (Ok tt)
    (g.D.MaildirDisk.maildir c.put_piece.new.disk) → g.D.MaildirDisk.sound c.args.disk.now
    × (g.D.MaildirDisk.maildir c.put_piece.new.disk ≡ begun_with (g.D.MaildirDisk.maildir c.args.disk.now)
    (draft (string_bytes c.args.stem) (so_far g c)))
put g c puts =
    let inv = c.pieces.invariant.2 in
    let was = inv.2 puts.0 in
    (was.0, (rw was.1 at puts.1) (draft (string_bytes c.args.stem) inv.0) refl)

length_so_far : (g : _) (c : After-put_piece g) → c.pieces.length + c.in-Ok.piece.put ≡ length (so_far g c)
length_so_far g c = let (_, _, (text, long, _, _), _, _) = c.pieces.invariant in
    longer c.pieces.length c.in-Ok.piece.put text c.next_piece.new.out long c.in-Ok.ensures.took.fits

pub settle_file-requires-clause-begun : goal.settle_file-requires-clause-begun
settle_file-requires-clause-begun g c = λ d. ap (λ (m : Maildir). is_some m.begun)
    (put g (goal.at.settle_file-requires-clause-begun g c).After-put_piece (c.in_default-put_piece.ensures.puts d)).1

pub settle_file-requires-clause-not_there : goal.settle_file-requires-clause-not_there
settle_file-requires-clause-not_there g c = λ d there.
    let now = put g (goal.at.settle_file-requires-clause-not_there g c).After-put_piece (c.in_default-put_piece.ensures.puts d) in
    (c.requires.free now.0).not_there _ (rw now.1 at there)

pub settle_file-requires-clause-named : goal.settle_file-requires-clause-named
settle_file-requires-clause-named g c = λ d.
    let now = put g (goal.at.settle_file-requires-clause-named g c).After-put_piece (c.in_default-put_piece.ensures.puts d) in
    rw now.1 (c.requires.free now.0).named

pub returns-in-Ok-settle_file-clause-stores : goal.returns-in-Ok-settle_file-clause-stores
returns-in-Ok-settle_file-clause-stores g c =
    let here = (goal.at.returns-in-Ok-settle_file-clause-stores g c).After-put_piece in
    let inv = c.pieces.invariant.2 in (
      so_far g here,
      λ d.
          let ends = c.in-Ok-settle_file.ensures.ends d in
          let now = put g here (c.in_default-put_piece.ensures.puts ends.0) in (
            now.0,
            (
              settled (g.D.MaildirDisk.maildir c.args.disk.now) _ _ (string_bytes c.args.stem) _ _ now.1 (length_so_far g here) ends.1,
              length_so_far g here,
            ),
          ),
      and_then g.W.Wire g.met.W.Wire.leads_on inv.3 c.in-Ok.ensures.takes
          (λ before took number start now. (took number start inv.0 (before number start now)).1 c.if-piece.true),
    )

pub returns-in-Err-settle_file-clause-stores : goal.returns-in-Err-settle_file-clause-stores
returns-in-Err-settle_file-clause-stores g c =
    let here = (goal.at.returns-in-Err-settle_file-clause-stores g c).After-put_piece in
    let inv = c.pieces.invariant.2 in (
      so_far g here,
      λ d.
          let (sound, (fault, ends)) = c.in-Err-settle_file.ensures.ends d in
          let now = put g here (c.in_default-put_piece.ensures.puts sound) in (
            now.0,
            inr (
              fault,
              ⊎_elim inl (λ is. inr (c.in-Ok.ensures.took.ended.0 c.if-piece.true, is))
                  ((rw (now.1, length_so_far g here) at ends) (draft (string_bytes c.args.stem) _) refl),
            ),
          ),
      and_then g.W.Wire g.met.W.Wire.leads_on inv.3 c.in-Ok.ensures.takes (λ before took number start now. let more =
          took number start inv.0 (before number start now) in (more.0, λ done. more.1 c.if-piece.true)),
    )

pub pieces-preserved : goal.pieces-preserved
pieces-preserved g c =
    let here = (goal.at.pieces-preserved g c).After-put_piece in
    let inv = c.pieces.invariant.2 in
    let not_done : c.next_piece.new.body.spot ≢ Done = λ done. false≢true (sym c.if-piece.false ∙ c.in-Ok.ensures.took.ended.1 done) in
    let longest : length c.next_piece.new.out ≡ 4097 = c.next_piece.array_long in
    let less : c.next_piece.new.body.left < c.pieces.rest.left = c.in-Ok.ensures.took.less not_done in (
      not_done,
      omega (arith, c.pieces.invariant.1, c.in-Ok.ensures.took.fits, longest, less),
      (
        so_far g here,
        length_so_far g here,
        λ d. put g here (c.in_default-put_piece.ensures.puts d),
        and_then g.W.Wire g.met.W.Wire.leads_on inv.3 c.in-Ok.ensures.takes
            (λ before took number start now. (took number start inv.0 (before number start now)).0),
      ),
      c.in-Ok.ensures.counted ∙ c.pieces.invariant.3,
      c.in-Ok.ensures.link ∙ c.pieces.invariant.4,
    )

pub returns-in-Err-next_piece-clause-counted : goal.returns-in-Err-next_piece-clause-counted
returns-in-Err-next_piece-clause-counted g c =
    rw c.from.ensures (before_cut (g.W.Wire.history c.args.client.now.wire.now) (g.W.Wire.history c.pieces.client.wire.now)
    (g.W.Wire.history c.next_piece.new.self.wire.now) _ c.pieces.invariant.3
    (cut_by c.in-Err-next_piece.fault (g.W.Wire.history c.pieces.client.wire.now)
    (g.W.Wire.history c.next_piece.new.self.wire.now) c.in-Err-next_piece.ensures.counted))
