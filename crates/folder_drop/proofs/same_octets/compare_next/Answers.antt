use Rattle.std.{proofs.{Common.{◌≡◌, take, subst, rules, arith}, BufReadLemmas.Consumes_shown}, specs.Io.BufRead.FillKeeps}
use Rattle.folder_drop.proofs.SameOctetsLemmas.{different, later_same}
use Rattle.folder_drop.proofs.same_octets.compare_next.Goals as goal

pub returns-then-ne : goal.returns-then-ne
returns-then-ne g c =
    different _ _ c.in_ok-front.front.now c.in_ok-other_front.other_front.now c.min-count.result (omega (arith, c.min-count.ensures))
    (omega (arith, c.min-count.ensures)) c.in_ok-front.ensures.front c.in_ok-other_front.ensures.front (search rules)

pub returns : goal.returns
returns g c =
    let count = c.min-count.result in
    let front = c.in_ok-front.front.now in
    let other_front = c.in_ok-other_front.other_front.now in
    let rested = c.fill_buf.follows.lender-at-none in
    let other_rested = c.fill_buf-2.follows.lender-at-none in
    let filled = subst (FillKeeps _ (g.F.Read.remaining rested) (g.F.BufRead.consumable_len rested)) c.in_ok-front.was
    c.fill_buf.follows.holds-at-none in
    let other_filled = subst (FillKeeps _ (g.G.Read.remaining other_rested) (g.G.BufRead.consumable_len other_rested))
    c.in_ok-other_front.was c.fill_buf-2.follows.holds-at-none in
    let shown = Consumes_shown _ _ _ _ front count (omega (arith, c.min-count.ensures)) c.in_ok-front.ensures.front
    c.in_ok-front.ensures.end filled.0 filled.1 c.consume.ensures.bytes in
    let other_shown = Consumes_shown _ _ _ _ other_front count (omega (arith, c.min-count.ensures)) c.in_ok-other_front.ensures.front
    c.in_ok-other_front.ensures.end other_filled.0 other_filled.1 c.consume-2.ensures.bytes in
    let same : take count front ≡ take count other_front = search rules in
    later_same _ _ _ _ _ _ same shown.0 other_shown.0
