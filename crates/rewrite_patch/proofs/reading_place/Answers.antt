use Rattle.std.proofs.Common.{◌∙◌, ap, drop, arith}
use Rattle.mir.specs.Kind.{number_of_kind}
use Rattle.bytes_operands.specs.Fields.{fields_place}
use Rattle.rewrite_patch.proofs.Whole.{place_is}
use Rattle.rewrite_patch.proofs.reading_place.Goals as goal

pub returns-clause-places : goal.returns-clause-places
returns-clause-places c = λ i k l.
    let a = c.args in
    omega (
      arith,
      c.fields_place.ensures ∙ ap fields_place c.instruction-s.ensures,
      c.number_in.ensures.0,
      place_is a.code a.slot i k (number_of_kind c.in-Some.kind) c.own_fields.result.now a.j c.in-Some.ensures (c.own_fields.ensures ∙ ap (λ s. drop (fields_place s) s) c.instruction-s.ensures) l,
    )
