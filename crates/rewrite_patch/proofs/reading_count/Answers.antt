use Rattle.std.proofs.Common.{◌≡◌, ◌∙◌, ap, drop, length, arith, ◌≤◌}
use Rattle.mir.specs.Kind.{number_of_kind}
use Rattle.mir.specs.Syntax.{Instruction}
use Rattle.bytes_laws.specs.WellFormed.{Wide}
use Rattle.bytes_operands.specs.Fields.{fields_place}
use Rattle.rewrite.specs.Readings.{readings}
use Rattle.rewrite_patch.specs.Kept.{Kept}
use Rattle.rewrite_patch.specs.Places.{count_in}
use Rattle.rewrite_patch.proofs.Whole.{count_is, few_are}
use Rattle.rewrite_patch.proofs.reading_count.Goals as goal

pub returns : goal.returns
returns c = record { counts = λ i k. (both i k).0; few = λ i k. (both i k).1 }
  where
    both : (i : Instruction) (k : Kept c.args.code c.args.slot i) → (c.count_in.result ≡ length (readings i.kind)) × (c.count_in.result ≤ 16)
    both i k =
        let a = c.args in
        let w : Wide a.code.bounds = record { types = omega arith; next = omega arith; blocks = omega arith; list = omega arith; projections = omega arith } in
        let e : count_in c.own_fields.result.now (number_of_kind c.in-Some.kind) ≡ length (readings i.kind) =
        count_is a.code a.slot i k (number_of_kind c.in-Some.kind) c.own_fields.result.now c.in-Some.ensures (c.own_fields.ensures ∙ ap (λ s. drop (fields_place s) s) c.instruction.ensures) in
        let f = few_are a.code a.slot i k w in
        let g = c.count_in.ensures (omega (arith, e, f)) ∙ e in
        (g, omega (arith, g, f))
