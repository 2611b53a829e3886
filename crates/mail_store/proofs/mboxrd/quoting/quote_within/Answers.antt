use Rattle.std.proofs.{
  Common.{◌≡◌, ◌≤◌, List, ℕ, ◌++◌, ◌+◌, ◌-◌, length, take, drop, arith, ap, ◌∙◌, sym, append_assoc, length-append, slice_range},
  lemmas.List.{drop-append-le, drop-take, length-take-le, take-append-drop, take-take},
}
use Rattle.mail_terms.specs.Text.{IsWhole}
use Rattle.mail_store.{
  specs.Mboxrd.{quoted, quoted_text},
  proofs.{MboxLemmas.{quoted_first, quoted_last, quoted_longer}, mboxrd.quoting.quote_within.Goals.After-last_line-start},
}
use Rattle.mail_store.proofs.mboxrd.quoting.quote_within.Goals as goal

-- the last line before `from`, for which there is room before what is quoted
record Last (text bytes : List ℕ) (start from to : ℕ) : Type 0 where
  line : List ℕ
  whole : IsWhole (take start text)
  fits : start ≤ from
  taken : slice_range bytes start from ≡ line
  room : length (quoted_text (take start text)) + length (quoted line) ≤ to
  less : start ≤ length (quoted_text (take start text))
  shown : quoted_text (drop start text) ≡ quoted line ++ quoted_text (drop from text)

last : (c : After-last_line-start) → Last (take c.args.count c.args.bytes.now.items) c.loop-from.bytes.items c.last_line-start.result
    c.loop-from.from c.loop-from.to
last c =
    let was = c.loop-from.invariant in
    let text = take c.args.count c.args.bytes.now.items in
    let from = c.loop-from.from in
    let start = c.last_line-start.result in
    let line = drop start (take from text) in
    let front = ap (take from) c.deref.ensures.value ∙ was.front in
    let is = rw front at c.last_line-start.ensures.line in
    let size = length-take-le from text was.fits in
    let fits : start ≤ from = omega (arith, rw front at c.last_line-start.ensures.fits, size) in
    let whole = rw (front, take-take start from text fits) at c.last_line-start.ensures.front in
    let before = rw (take-take start from text fits) at (take-append-drop start (take from text)) in
    let behind = ap (drop start) (sym (take-append-drop from text))
    ∙ drop-append-le start (take from text) (drop from text) (omega (arith, fits, size)) in
    let sum : start + (from - start) ≡ from = omega (arith, fits) in
    record {
      line = line;
      whole = whole;
      fits = fits;
      taken = rw (← drop-take start (from - start) c.loop-from.bytes.items, sum, was.front);
      room = omega (
        arith,
        ap (λ (l : List ℕ). length (quoted_text l)) before,
        ap length (quoted_last (take start text) line whole is),
        length-append (quoted_text (take start text)) (quoted line),
        was.room,
      );
      less = omega (arith, length-take-le start text (omega (arith, fits, was.fits)), quoted_longer (take start text));
      shown = rw behind (quoted_first line (drop from text) is);
    }

pub move_line-to-requires : goal.move_line-to-requires
move_line-to-requires c =
    let was = c.loop-from.invariant in
    let line = last (goal.at.move_line-to-requires c).After-last_line-start in
    let text = take c.loop-from.from (take c.args.count c.args.bytes.now.items) in
    record {
      order = (
        line.fits,
        omega (
          arith,
          was.room,
          length-take-le c.loop-from.from (take c.args.count c.args.bytes.now.items) was.fits,
          quoted_longer text,
        ),
        omega (arith, was.place, was.size, c.requires.fits.1),
      );
      room = omega (arith, line.room, line.less, ap (λ (l : List ℕ). length (quoted l)) line.taken);
    }

pub loop-from-preserved : goal.loop-from-preserved
loop-from-preserved c =
    let was = c.loop-from.invariant in
    let moved = c.move_line-to.ensures in
    let text = take c.args.count c.args.bytes.now.items in
    let from = c.loop-from.from in
    let start = c.last_line-start.result in
    let line = last (goal.at.loop-from-preserved c).After-last_line-start in
    let place = rw line.taken at moved.place in
    record {
      fits = omega (arith, line.fits, was.fits);
      size = moved.size ∙ was.size;
      whole = line.whole;
      front = moved.front ∙ sym (take-take start from c.loop-from.bytes.items line.fits) ∙ ap (take start) was.front
          ∙ take-take start from text line.fits;
      room = omega (arith, line.room, place);
      place = omega (arith, ap length line.shown, length-append (quoted line.line) (quoted_text (drop from text)), place, was.place);
      back = rw (line.shown, append_assoc (quoted line.line) (quoted_text (drop from text))) (rw (line.taken, was.back) at moved.back);
    }
