use Rattle.std.proofs.Common.{[], ◌∷◌, Ok, refl, sym, append-nil, arith}
use Rattle.pop3_client.specs.{Client.link_of, Turns.quit}
use Rattle.pop3_wire.proofs.LinkLemmas.{in_words}
use Rattle.session_parts.{
  proofs.{TalkLemmas.{err_is, did_so, quit_broke, took_completing, took_less, cut_by}, TextLemmas.{taken_idle, text_broken}},
  proofs.PartLemmas.{Looked, runs_quitting, look_maildir, look_told, not_left, quitting_store, link_broke, link_idle, link_on_tail},
  proofs.PartLemmas.{link_still, link_with_tail},
  proofs.ending.end.Goals.After-look_again,
  specs.{Task.says, Target.{kind_of, target_of}},
}
use Rattle.session_parts.proofs.ending.end.Goals as goal

looks_at_end : (g : _) (c : After-look_again g) → Looked g.D.MaildirDisk g.F.FlatFile c.args.work.now c.look_again.new.store
looks_at_end g c = record {
  ready = c.requires;
  kind = c.look_again.ensures.kind;
  same = λ d. let looks = c.look_again.ensures.looks d
      in (looks.0, look_maildir (kind_of c.args.work.now.store) _ _ c.look_again.result _ looks.1);
  keeps = c.look_again.ensures.keeps;
}

-- the look was refused
pub returns-in_err-told : goal.returns-in_err-told
returns-in_err-told g c =
    let is = looks_at_end g (goal.at.returns-in_err-told g c).After-look_again in
    rw (err_is c.from_residual.ensures.1) (record {
      told = tt;
      link = link_with_tail (link_idle {limit = 0});
      store = quitting_store is;
      runs = λ account. runs_quitting is account link_idle (λ d safe. tt) (λ d w. (
        w,
        g.met.W.Wire.leads_same c.args.client.now.wire.now,
        not_left (kind_of c.args.work.now.store) account c.in_err-told.field-0.0 c.deref.ensures.value (c.in_err-told.ensures.looks d).1,
      ));
    })

-- QUIT was answered well
pub returns : goal.returns
returns g c =
    let work = c.args.work.now in
    let is = looks_at_end g (goal.at.returns g c).After-look_again in
    let took = did_so g.W.Wire c.in_ok-quit.ensures.completes (took_completing c.conversations_are_paced.ensures quit _ _ (Ok tt)) in
    record {
      told = λ d. rw c.deref.ensures.value at (look_told (kind_of work.store) _ _ _ c.in_ok-told.told (c.in_ok-told.ensures.looks d).1).0;
      link = record {
        same = c.quit.ensures.link;
        counted = c.in_ok-quit.ensures.counted;
        took =
            λ w. ((took w).0, took_less (took w).1 (omega arith));
      };
      store = quitting_store is;
      runs = λ account. runs_quitting is account
          (record { same = c.quit.ensures.link; counted = c.in_ok-quit.ensures.counted; took = took }) c.in_ok-told.ensures.safe
          (λ d. in_words g.W.Wire c.in_ok-quit.ensures.completes
          (λ said. rw (look_told (kind_of work.store) _ _ _ c.in_ok-told.told (c.in_ok-told.ensures.looks d).1).1
          (taken_idle (target_of work.store account) (record { task = says quit; replies = said.0 ∷ [] })
          (λ account. refl) refl refl said.1.good said.1 (sym (append-nil _)))));
    }

-- it wasn't
pub returns-in_err-quit : goal.returns-in_err-quit
returns-in_err-quit g c =
    let work = c.args.work.now in
    let is = looks_at_end g (goal.at.returns-in_err-quit g c).After-look_again in
    let broken = c.in_err-quit.ensures.completes in
    rw (err_is c.from_residual-in_err-quit.ensures.1) (record {
      told = tt;
      link = link_on_tail (omega arith) link_still (record {
        same = c.quit.ensures.link;
        counted = cut_by c.in_err-quit.field-0.0 (link_of g.W.Wire c.args.client.now) (link_of g.W.Wire c.quit.new.self)
            c.in_err-quit.ensures.counted;
        took = did_so g.W.Wire broken (quit_broke c.conversations_are_paced.ensures _ _ c.in_err-quit.field-0.0);
      });
      store = quitting_store is;
      runs = λ account. runs_quitting is account
          (link_broke c.conversations_are_paced.ensures quit c.in_err-quit.field-0.0 c.quit.ensures.link
          c.in_err-quit.ensures.counted broken) (λ d safe. tt) (λ d. in_words g.W.Wire broken
          (λ broke. rw (look_told (kind_of work.store) _ _ _ c.in_ok-told.told (c.in_ok-told.ensures.looks d).1).1
          (text_broken (target_of work.store account) c.in_err-quit.field-0.0 refl broke)));
    })
