use Rattle.std.proofs.Common.{◌∙◌, ◌≡◌, ◌≤◌, ◌<◌, ◌&&◌, true, false, sym, ap, eqb, length, get_or, arith}
use Rattle.std.proofs.lemmas.Grind.{get_or_default_zero}
use denote.Enum.Bare.{sameb}
use Rattle.mir.specs.contracts.kind.Kind.{the_type}
use Rattle.mir.specs.declared.kind.Kind.{Kind}
use Rattle.mir.proofs.Numbered.{kind_below}
use Rattle.mir.proofs.Numbers.{kind_tag}
use Rattle.mir.specs.Kind.{number_of_kind}
use Rattle.bytes_block.proofs.Start.{no_bits, bits_past, no_kind, kind_past, late_phi_lem, head_some}
use Rattle.bytes_block.proofs.read_head.Goals as goal
use Rattle.bytes_block.proofs.read_head.Goals.{else-late-via-then-late+else-eq, else-late-via-else-late}

pub returns-in_default : goal.returns-in_default
returns-in_default c =
    rw c.at.ensures (no_bits c.args.late c.args.s.now c.in_default.len_below)

pub returns-then-not-defined_bits : goal.returns-then-not-defined_bits
returns-then-not-defined_bits c =
    rw c.at-then-not-defined_bits.ensures (bits_past c.args.late c.args.s.now c.in-len1-up.len_at_least (sym c.defined_bits.ensures ∙ c.if-not-defined_bits.true))

pub returns-in_default-get : goal.returns-in_default-get
returns-in_default-get c =
    let h : length c.args.s.now < 2 = omega (arith, c.in_default-get.ensures.lookup) in
    rw c.at-in_default-get.ensures (no_kind c.args.late c.args.s.now (sym c.defined_bits.ensures ∙ c.if-not-defined_bits.false) c.in-len1-up.len_at_least h)

pub returns-in_default-try_from : goal.returns-in_default-try_from
returns-in_default-try_from c =
    let j : 2 ≤ length c.args.s.now = omega (arith, c.in-Some.ensures.lookup) in
    let v = c.in-Some.ensures.lookup.1 ∙ get_or_default_zero _ _ _ j in
    let k : 19 ≤ get_or c.args.s.now 1 0 = omega (arith, c.in_default-try_from.ensures, c.from.ensures, v) in
    rw c.at-in_default-try_from.ensures (kind_past c.args.late c.args.s.now (sym c.defined_bits.ensures ∙ c.if-not-defined_bits.false) j k)

-- a kind is Phi where its number is Phi's
is_phi : (k : Kind) → sameb the_type k Kind.Phi ≡ eqb (number_of_kind k) 9
is_phi k = ap (λ n. eqb n 9) (kind_tag k)

pub returns-then-eq : goal.returns-then-eq
returns-then-eq c =
    let k = c.in-Ok.kind in
    let j : 2 ≤ length c.args.s.now = omega (arith, c.in-Some.ensures.lookup) in
    let e : number_of_kind k ≡ get_or c.args.s.now 1 0 = c.in-Ok.ensures ∙ c.from.ensures ∙ c.in-Some.ensures.lookup.1 ∙ get_or_default_zero _ _ _ j in
    let h : get_or c.args.s.now 1 0 < 19 = omega (arith, kind_below k) in
    let l : (c.args.late && eqb (get_or c.args.s.now 1 0) 9) ≡ true =
    simp (c.if-late.true, ← e, ← is_phi k, ← c.eq.ensures, c.if-eq.true) in
    rw c.at-then-eq.ensures (late_phi_lem c.args.late c.args.s.now (sym c.defined_bits.ensures ∙ c.if-not-defined_bits.false) j h l)

pub returns : goal.returns
returns c =
    let k = c.in-Ok.kind in
    let j : 2 ≤ length c.args.s.now = omega (arith, c.in-Some.ensures.lookup) in
    let e : number_of_kind k ≡ get_or c.args.s.now 1 0 = c.in-Ok.ensures ∙ c.from.ensures ∙ c.in-Some.ensures.lookup.1 ∙ get_or_default_zero _ _ _ j in
    let h : get_or c.args.s.now 1 0 < 19 = omega (arith, kind_below k) in
    let l : (c.args.late && eqb (get_or c.args.s.now 1 0) 9) ≡ false =
    elim c.else-late.branch [
      | else-late-via-then-late+else-eq w ↦ simp (w.if-late.true, ← e, ← is_phi k, ← w.eq.ensures, w.if-eq.false)
      | else-late-via-else-late w ↦ simp w.if-late.false
    ] in
    rw e (head_some c.args.late c.args.s.now (sym c.defined_bits.ensures ∙ c.if-not-defined_bits.false) j h l)
