use Rattle.std.proofs.Common.{◌≡◌, ◌-◌, ℕ, length, take, drop, min, sym, subst, arith, length-take}
use Rattle.pop3_wire.{specs.Place.HasNoLine, proofs.LineReaderLemmas.{line_end_found, line_end_none, no_line_max, no_line_limit}}
use Rattle.pop3_wire.proofs.line_reader.LineReader.line_end.Goals as goal

pub returns-in-Some-clause-found : goal.returns-in-Some-clause-found
returns-in-Some-clause-found c =
    line_end_found c.args.self.now c.args.limit c.self.inside.searched c.min-until.result c.saturating_sub-from.result
    c.in-Some.line.now c.in-Some.field-0-1.now
    (cc) (cc) (subst (HasNoLine c.self.inside.searched) c.self.view_is c.self.invariant.3) c.in-Some.ensures.found.0
    (rw c.waiting-2.ensures.value at c.in-Some.ensures.found.1)

-- the octets that the search went over hold no line end
searched_over : (c : goal.After-self-1) → HasNoLine c.min-until.result c.args.self.now
searched_over c =
    line_end_none c.args.self.now c.args.limit c.self.inside.searched c.min-until.result c.saturating_sub-from.result
    (cc) (cc) (subst (HasNoLine c.self.inside.searched) c.self.view_is c.self.invariant.3)
    (rw c.waiting-2.ensures.value at c.in_default.ensures.none)

pub invariant_of-self : goal.invariant_of-self
invariant_of-self c =
    let r = c.self.inside in
    let w = take (r.end - r.start) (drop r.start r.bytes) in
    let over : HasNoLine c.min-until.result w = subst (HasNoLine c.min-until.result) (sym c.self.view_is) (searched_over c) in
    let top : HasNoLine c.max-self-inside.result w =
    subst (λ (k : ℕ). HasNoLine k w) (sym c.max-self-inside.ensures)
    (no_line_max r.searched c.min-until.result w c.self.invariant.3 over) in
    let until : c.min-until.result ≡ min c.args.limit (length w) = cc in
    let size : length w ≡ min (r.end - r.start) (length (drop r.start r.bytes)) = length-take (r.end - r.start) (drop r.start r.bytes) in
    (c.self.invariant.0, c.self.invariant.1, omega arith, top)

pub returns-clause-none : goal.returns-clause-none
returns-clause-none c = no_line_limit c.args.limit c.min-until.result c.args.self.now (cc) (searched_over c)
