-- Answers with a text, which are made and sent as the text is read.
use Rattle.std.proofs.{
  Common.{◌≡◌, ◌≤◌, ◌+◌, ℕ, Bool, true, false, List, [], ◌++◌, length, take, drop, Option, Some, Ok, refl, sym, ap, ap₂, ◌∙◌, append_assoc},
  Common.{inr, slice_get, length-append, length-take-le, take-append-drop, take-add},
  lemmas.List.{append-nil, append_cancel_left},
}
use Rattle.pop3_wire.specs.World.{Message}
use Rattle.pop3_server.{
  specs.declared.{rows.MessageRow.MessageRow, state.State.{State, TheVariants.Transaction}, text_part.TextBody.TextBody},
  specs.{Maildrop.{GivesPart, HasPlace, DropMail, there}, ServerMachine.{Answers, Action, Give, Tied, text_body}},
  specs.{TextAnswer.{BeginsAnswer, BeginsTextAt, OnlyReads, after_call}, TextBody.{belonging, still}},
  specs.TextPiece.{is_open_after, sent_end, sent_piece},
  proofs.TextBodyLemmas.{none_belongs, still_none, still_on},
}

-- ---- octets of a text

-- n more octets after those that were read
pub text_read_on : (mail after : DropMail) (i n : ℕ) (read piece : List ℕ) → n ≤ length piece → BeginsTextAt mail i read
    → GivesPart mail i (length read) (Ok n) piece after → BeginsTextAt mail i (read ++ take n piece)
text_read_on mail after i n read piece fits (message, at, begins) (same, (other, there, part, none)) =
    let is : other ≡ message = cc in
    (message, at, rw (length-append, length-take-le n piece fits, take-add) (ap₂ (λ (a b : List ℕ). a ++ b) begins (rw is at part)))

call_slots : (refused : Bool) (before after : DropMail) → after ≡ after_call refused before → after.slots ≡ before.slots
call_slots true before after is = ap (λ (m : DropMail). m.slots) is
call_slots false before after is = ap (λ (m : DropMail). m.slots) is

module _ {D : Type 0} (sound : D → Type 0) (mail : D → DropMail) where
  -- ---- calls that read

  pub reads_none : (d : D) → OnlyReads sound mail false d d
  reads_none d = record { failures = refl; removals = refl; known = λ s. (s, refl) }

  pub reads_on : (refused : Bool) (a b c : D) → OnlyReads sound mail false a b → OnlyReads sound mail refused b c
      → OnlyReads sound mail refused a c
  reads_on refused a b c first second = record {
    failures = rw first.failures at second.failures;
    removals = second.removals ∙ first.removals;
    known = λ s.
        let later = second.known s in
        let before = first.known later.0 in
        (before.0, later.1 ∙ ap (after_call refused) before.1);
  }

  pub reads_part : (a b : D) (i start n : ℕ) (piece : List ℕ) → (mail b).failures ≡ (mail a).failures
      → (mail b).removals ≡ (mail a).removals
      → (sound b → sound a × GivesPart (mail a) i start (Ok n) piece (mail b)) → OnlyReads sound mail false a b
  reads_part a b i start n piece failures removals gives = record {
    failures = failures;
    removals = removals;
    known = λ s. let (before, (stays, _)) = gives s in (before, stays);
  }

  pub reads_tied : (refused : Bool) (a b : D) (state : State) → OnlyReads sound mail refused a b
      → Tied (sound a) (mail a) state → Tied (sound b) (mail b) state
  reads_tied refused a b (Transaction rows) reads tied = λ s i row at.
      let now = reads.known s in
      let place = tied now.0 i row at in
      (place.0, rw (call_slots refused (mail a) (mail b) now.1) place.1)
  reads_tied refused a b other reads tied = tt

  -- ---- an answer with a text

  -- its first line was made
  pub begins_new : (d : D) (rows : List MessageRow) (line : List ℕ) (top : Option ℕ) (text : TextBody) → text.start ≡ 0
      → (sound d → HasPlace (mail d) text.place) → ((octets : List ℕ) → still text octets ≡ text_body top octets)
      → BeginsAnswer sound mail (Give rows text.place line top) d line text (Transaction rows) d
  begins_new d rows line top text start has whole = record {
    rows = rows;
    line = line;
    top = top;
    gives = refl;
    state = refl;
    read = [];
    start = start;
    goes_on = λ more. ap (λ (l : List ℕ). line ++ l) (sym (whole more));
    reads = reads_none d;
    known = λ s. let place = has s in (place.0, place.1, refl);
  }

  -- one more part was read
  pub begins_on : (asked : Action) (old b c : D) (x y : TextBody) (next : State) (n : ℕ)
      (sent earlier reply piece octets : List ℕ) → n ≤ length piece → y.place ≡ x.place → y.start ≡ x.start + n
      → ((rest : List ℕ) → belonging x.top (take n piece ++ rest) ≡ octets ++ belonging y.top rest)
      → y.stuffer.in_line ≡ is_open_after x.stuffer.in_line octets → OnlyReads sound mail false b c
      → (sound c → sound b × GivesPart (mail b) x.place x.start (Ok n) piece (mail c))
      → reply ≡ earlier ++ sent_piece x.stuffer.in_line octets
      → BeginsAnswer sound mail asked old (sent ++ earlier) x next b → BeginsAnswer sound mail asked old (sent ++ reply) y next c
  begins_on asked old b c x y next n sent earlier reply piece octets fits place start belong opened reads gives is begins = record {
    rows = begins.rows;
    line = begins.line;
    top = begins.top;
    gives = rw place begins.gives;
    state = begins.state;
    read = begins.read ++ take n piece;
    start = rw (start, begins.start, length-append, length-take-le n piece fits);
    goes_on = λ more. rw (
      append_assoc begins.read,
      begins.goes_on (take n piece ++ more),
      still_on x y (take n piece) octets belong opened more,
      is,
    ) (simp append_assoc);
    reads = reads_on false old b c begins.reads reads;
    known = λ s.
        let part = gives s in
        rw place (text_read_on (mail old) (mail c) x.place n begins.read piece fits (begins.known part.0)
        (rw ((begins.reads.known part.0).1, begins.start) at part.1));
  }

  -- all of it was made: of what follows in the text, nothing belongs to its body
  pub begins_end : (asked : Action) (old b c : D) (x : TextBody) (next : State) (sent earlier octets : List ℕ)
      → OnlyReads sound mail false b c → (sound c → (message : Message) × (slice_get (mail b).slots x.place ≡ Some (Some message))
      × (still x (drop x.start message.text) ≡ sent_end x.stuffer.in_line))
      → octets ≡ earlier ++ sent_end x.stuffer.in_line → BeginsAnswer sound mail asked old (sent ++ earlier) x next b
      → Answers sound mail asked old (sent ++ octets) next c
  begins_end asked old b c x next sent earlier octets reads past is begins = rw (is, ← append_assoc sent, begins.gives) (record {
    removals = reads.removals ∙ begins.reads.removals;
    does = (
      begins.state,
      inr (
        begins.read,
        ends,
        λ s.
            let last = reads.known s in
            let first = begins.reads.known last.0 in
            let begun = begins.known last.0 in
            let over = past s in
            let at = rw first.1 at over.1 in
            let same : over.0 ≡ begun.0 = cc in
            let whole : begins.read ++ drop x.start begun.0.text ≡ begun.0.text =
            rw begins.start (ap (λ (l : List ℕ). l ++ drop (length begins.read) begun.0.text) begun.2
            ∙ take-append-drop (length begins.read) begun.0.text) in (
              first.0,
              (
                last.1 ∙ first.1,
                (
                  begun.0,
                  begun.1,
                  append_cancel_left begins.line (text_body begins.top begins.read) (text_body begins.top begun.0.text)
                      (sym (rw (whole, rw same at over.2) at (begins.goes_on (drop x.start begun.0.text)) ∙ ends)),
                ),
              ),
            ),
      ),
    );
  })
    where
      ends : (sent ++ earlier) ++ sent_end x.stuffer.in_line ≡ begins.line ++ text_body begins.top begins.read
      ends = sym (rw (append-nil, still_none x [] (none_belongs x.top)) at (begins.goes_on []))
