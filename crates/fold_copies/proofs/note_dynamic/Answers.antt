use mathlib.Core.List.{[]}
use mathlib.Core.Bool.{false}
use mathlib.Core.Path.{ap, sym, ◌∙◌}
use Rattle.fold_family.specs.Copies.{dynamic_step}
use Rattle.fold_copies.proofs.Fields.{noted_other, noted_static, noted_dynamic}
use Rattle.fold_copies.proofs.note_dynamic.Goals as goal

pub returns-then-is_dynamic : goal.returns-then-is_dynamic
returns-then-is_dynamic c =
    let a = c.args in
    noted_dynamic a.code a.row.now a.dynamic.now _ c.instruction-t.ensures _
    (λ i n e. c.is_dynamic.ensures ∙ ap dynamic_step (c.projection.ensures [] false i n e)) c.if-is_dynamic.true _
    c.number-base.ensures c.put.ensures

pub returns-else-is_dynamic : goal.returns-else-is_dynamic
returns-else-is_dynamic c =
    let a = c.args in
    noted_static a.code a.row.now a.dynamic.now _ c.instruction-t.ensures _
    (λ i n e. c.is_dynamic.ensures ∙ ap dynamic_step (c.projection.ensures [] false i n e)) c.if-is_dynamic.false

pub returns-then-not-has_place : goal.returns-then-not-has_place
returns-then-not-has_place c = noted_other c.args.code c.args.row.now c.args.dynamic.now (sym c.has_place.ensures ∙ c.if-not-has_place.true)
