use Rattle.std.proofs.Common.{arith, ◌∙◌, ◌≡◌, sym, ap, drop}
use Rattle.bytes_wire.specs.Parse.{later}
use Rattle.bytes_wire.proofs.Laws.{and_nothing}
use Rattle.bytes_field.proofs.Sizes.{size_field}
use Rattle.bytes_field.proofs.Laws.{bytes_within}
use Rattle.bytes_field.specs.Walk.{walk_before, scanned, simple_walk, field_walk}
use Rattle.bytes_row.specs.Class.{number_of_class, number_of_digit}
use Rattle.bytes_row.proofs.digit_behind.Goals as goal

pub further-requires : goal.further-requires
further-requires c =
    let a = c.args in
    let l = c.read_field.new in
    let k = number_of_class c.in-Some.c in
    let w = walk_before a.seen.now a.buffer.now a.p in
    omega (
      arith,
      bytes_within a.s.now a.p.size c.read_field.result l.seen l.buffer (λ t. field_walk a.b a.many k w t) c.behind-t.ensures c.read_field.ensures
          (λ u. size_field a.b a.many k w u),
    )

pub returns-in-None : goal.returns-in-None
unfolding field_walk simple_walk
returns-in-None c =
    let a = c.args in
    let e : a.digit ≡ 0 = sym c.class_of.ensures ∙ ap number_of_digit c.in-None.is in
    rw e (sym (and_nothing a.s.now (scanned a.seen.now a.buffer.now a.p)))

pub returns-in-Some : goal.returns-in-Some
returns-in-Some c =
    let a = c.args in
    let l = c.read_field.new in
    let k = number_of_class c.in-Some.c in
    let w = walk_before a.seen.now a.buffer.now a.p in
    let e : k ≡ a.digit = sym (ap number_of_digit c.in-Some.is) ∙ c.class_of.ensures in
    c.further.ensures l.seen l.buffer
    ∙ ap (later a.p.size) (c.read_field.ensures ∙ ap (λ t. field_walk a.b a.many k w t) c.behind-t.ensures)
    ∙ ap (λ d. later a.p.size (field_walk a.b a.many d w (drop a.p.size a.s.now))) e
