use Rattle.std.proofs.Common.{◌∙◌, ◌≤◌, ◌<◌, ◌/◌, ◌%◌, length, arith}
use Rattle.std.proofs.lemmas.Grind.{get_or_default_zero}
use Rattle.bytes_sections.proofs.Map.{power, map_short, map_whole, map_cut, map_spare, map_last}
use Rattle.bytes_sections.proofs.sections.map_part.Goals as goal

pub returns-then-s-whole : goal.returns-then-s-whole
returns-then-s-whole c = rw c.at.ensures (map_short c.args.next c.args.s.now c.if-s-whole.true)

pub returns-then-bits-eq0 : goal.returns-then-bits-eq0
returns-then-bits-eq0 c = map_whole c.args.next c.args.s.now c.if-s-whole.false c.if-bits-eq0.true

pub returns-in_default : goal.returns-in_default
returns-in_default c =
    let h : length c.args.s.now ≤ c.args.next / 8 = omega (arith, c.in_default.ensures.lookup) in
    rw c.at-in_default.ensures (map_cut c.args.next c.args.s.now c.if-s-whole.false c.if-bits-eq0.false h)

pub returns-then-bits-last : goal.returns-then-bits-last
returns-then-bits-last c =
    let a = c.args in
    let h : a.next / 8 < length a.s.now = omega (arith, c.in-Some.ensures.lookup) in
    let v = c.in-Some.ensures.lookup.1 ∙ get_or_default_zero _ _ _ h in
    rw c.at-then-bits-last.ensures (map_spare a.next a.s.now h c.if-bits-eq0.false (rw (power (a.next % 8) (omega arith), v) at c.if-bits-last.true))

pub returns : goal.returns
returns c =
    let a = c.args in
    let h : a.next / 8 < length a.s.now = omega (arith, c.in-Some.ensures.lookup) in
    let v = c.in-Some.ensures.lookup.1 ∙ get_or_default_zero _ _ _ h in
    map_last a.next a.s.now h c.if-bits-eq0.false (rw (power (a.next % 8) (omega arith), v) at c.if-bits-last.false)
