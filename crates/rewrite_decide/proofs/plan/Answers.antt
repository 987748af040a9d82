use Rattle.std.proofs.Common.{refl, ◌∙◌, sym, ap}
use mathlib.Core.Logic.{⊎_elim}
use Rattle.mir.specs.Kind.{number_of_kind}
use Rattle.rewrite_arms.proofs.Actions.{plans_keep}
use Rattle.rewrite_arms.specs.Decided.{load_kind, make_tuple_kind, extract_element_kind, make_struct_kind}
use Rattle.rewrite_arms.specs.Decided.{extract_field_kind, insert_field_kind, insert_element_kind, make_array_kind}
use Rattle.rewrite_decide.proofs.Rest.{off_kept}
use Rattle.rewrite_decide.proofs.Stepping.{acting, tuple_step, array_step, struct_step}
use Rattle.rewrite_decide.proofs.plan.Goals as goal

pub returns-then-not-active : goal.returns-then-not-active
returns-then-not-active c = let a = c.args in
    λ τ S folds m i used h w n3 n6 f. plans_keep (off_kept a.turn.settings τ a.turn.fold folds S m i (c.in-Some.ensures ∙ h.line.kind) f n3 n6
    c.active.ensures c.if-not-active.true)

pub returns-in-Assign : goal.returns-in-Assign
returns-in-Assign c =
    λ τ S folds m i used h w n3 n6 f. c.assign.ensures _ c.args.turn.settings τ S folds m i used h w
    (sym (c.in-Some.ensures ∙ h.line.kind) ∙ ap number_of_kind c.in-Assign.is) tt

pub returns-in-Load : goal.returns-in-Load
returns-in-Load c = let a = c.args in
    let is = ap number_of_kind c.in-Load.is in
    let on = acting a.turn.settings.tuples a.turn.settings.structs a.turn.fold load_kind c.active.ensures c.if-not-active.false is in
    λ τ S folds m i used h w n3 n6 f. c.load.ensures a.turn.settings τ S folds m i used h w (sym (c.in-Some.ensures ∙ h.line.kind) ∙ is) (on, refl)

pub returns-in-MakeTuple : goal.returns-in-MakeTuple
returns-in-MakeTuple c = let a = c.args in
    λ τ S folds m i used h w n3 n6 f. ⊎_elim
    (λ e. let is = ap number_of_kind e in
    tuple_step h w a.turn.settings folds m _ f
    (acting a.turn.settings.tuples a.turn.settings.structs a.turn.fold make_tuple_kind c.active.ensures c.if-not-active.false is)
    (sym (c.in-Some.ensures ∙ h.line.kind) ∙ is))
    (λ e. let is = ap number_of_kind e in
    array_step h w a.turn.settings folds m _ f
    (acting a.turn.settings.tuples a.turn.settings.structs a.turn.fold make_array_kind c.active.ensures c.if-not-active.false is)
    (sym (c.in-Some.ensures ∙ h.line.kind) ∙ is))
    c.in-MakeTuple.is

pub returns-in-ExtractTupleElement : goal.returns-in-ExtractTupleElement
returns-in-ExtractTupleElement c = let a = c.args in
    let is = ap number_of_kind c.in-ExtractTupleElement.is in
    let on = acting a.turn.settings.tuples a.turn.settings.structs a.turn.fold extract_element_kind c.active.ensures c.if-not-active.false is in
    λ τ S folds m i used h w n3 n6 f. c.extract_element.ensures _ a.turn.settings τ S folds m i used h w (sym (c.in-Some.ensures ∙ h.line.kind) ∙ is) on

pub returns-in-MakeStruct : goal.returns-in-MakeStruct
returns-in-MakeStruct c = let a = c.args in
    let is = ap number_of_kind c.in-MakeStruct.is in
    let on = acting a.turn.settings.tuples a.turn.settings.structs a.turn.fold make_struct_kind c.active.ensures c.if-not-active.false is in
    λ τ S folds m i used h w n3 n6 f. struct_step h w a.turn.settings folds m _ f on (sym (c.in-Some.ensures ∙ h.line.kind) ∙ is) _
    c.last_type.ensures (λ fs d v l. c.plan_struct.ensures _ refl τ S _ fs h.ground d v l)

pub returns-in-ExtractStructField : goal.returns-in-ExtractStructField
returns-in-ExtractStructField c = let a = c.args in
    let is = ap number_of_kind c.in-ExtractStructField.is in
    let on = acting a.turn.settings.tuples a.turn.settings.structs a.turn.fold extract_field_kind c.active.ensures c.if-not-active.false is in
    λ τ S folds m i used h w n3 n6 f. c.extract_field.ensures _ a.turn.settings τ S folds m i used h w (sym (c.in-Some.ensures ∙ h.line.kind) ∙ is) on

pub returns-in-InsertField : goal.returns-in-InsertField
returns-in-InsertField c = let a = c.args in
    let is = ap number_of_kind c.in-InsertField.is in
    let on = acting a.turn.settings.tuples a.turn.settings.structs a.turn.fold insert_field_kind c.active.ensures c.if-not-active.false is in
    λ τ S folds m i used h w n3 n6 f. c.insert_field.ensures _ a.turn.settings τ S folds m i used h w (sym (c.in-Some.ensures ∙ h.line.kind) ∙ is) on

pub returns-in-InsertTuple : goal.returns-in-InsertTuple
returns-in-InsertTuple c = let a = c.args in
    let is = ap number_of_kind c.in-InsertTuple.is in
    let on = acting a.turn.settings.tuples a.turn.settings.structs a.turn.fold insert_element_kind c.active.ensures c.if-not-active.false is in
    λ τ S folds m i used h w n3 n6 f. c.insert_element.ensures _ a.turn.settings τ S folds m i used h w (sym (c.in-Some.ensures ∙ h.line.kind) ∙ is) on
