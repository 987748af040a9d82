use Rattle.std.proofs.Common.{not, rules, ◌≡◌}
use mathlib.Core.Path.{sym, ◌∙◌, ap, refl}
use mathlib.Core.Bool.{true≢false}
use mathlib.Core.Logic.{inl, inr}
use Rattle.mir.specs.Kind.{number_of_kind}
use Rattle.bytes_wire.proofs.Numbered.{kind_is}
use Rattle.fold_climb.specs.Scanned.{sight_of}
use Rattle.fold_climb.specs.Decided.{climbs}
use Rattle.fold_climb.proofs.Decide.{for_struct, for_array, for_tuple, other_kind, past_kinds, dynamic_array, constant_array}
use Rattle.fold_climb.proofs.folds.Goals as goal
use Rattle.fold_climb.proofs.folds.Goals.{in_default-via-in-Ok+in_default, in_default-via-in_default}
use Rattle.fold_climb.proofs.folds.Goals.{then-settings-2, else-settings-2, then-settings-3, else-settings-3}

pub returns-then-settings : goal.returns-then-settings
returns-then-settings c =
    let a = c.args in
    λ τ cross is eligible facts scanned few low. for_struct facts scanned few a.v low a.kind a.dynamic c.can_scalarize.result
    (kind_is number_of_kind c.in-Ok-MakeStruct.field-0-is c.in-Ok-MakeStruct.ensures) (rw c.if-settings.true c.can_scalarize.ensures)

pub returns-else-settings : goal.returns-else-settings
returns-else-settings c =
    let a = c.args in
    λ τ cross is eligible facts scanned few low. for_struct facts scanned few a.v low a.kind a.dynamic a.settings.structs
    (kind_is number_of_kind c.in-Ok-MakeStruct.field-0-is c.in-Ok-MakeStruct.ensures) (rw c.if-settings.false refl)

pub returns-then-not-dynamic : goal.returns-then-not-dynamic
returns-then-not-dynamic c =
    let a = c.args in
    λ τ cross is eligible facts scanned few low. for_array facts scanned few a.v low a.kind a.dynamic _
    (kind_is number_of_kind c.in-Ok-MakeFixedArray.field-0-is c.in-Ok-MakeFixedArray.ensures)
    (constant_array a.settings.tuples (climbs (sight_of a.view.shapes.now a.view.graph.now) a.v.0) a.dynamic _
    c.if-not-dynamic.true.0 c.if-not-dynamic.true.1 c.can_scalarize-then-not-dynamic.ensures)

pub returns-else-not-dynamic : goal.returns-else-not-dynamic
returns-else-not-dynamic c =
    let a = c.args in
    λ τ cross is eligible facts scanned few low. for_array facts scanned few a.v low a.kind a.dynamic _
    (kind_is number_of_kind c.in-Ok-MakeFixedArray.field-0-is c.in-Ok-MakeFixedArray.ensures)
    (elim c.if-settings-2.branch [
      | then-settings-2 w ↦ elim c.if-not-dynamic.either [
        | inl p ↦ (w.t-11-is ∙ ap not p.1) ∙ dynamic_array a.settings.tuples (climbs (sight_of a.view.shapes.now a.view.graph.now) a.v.0) a.dynamic p.1
        | inr q ↦ absurd (true≢false (sym w.if-settings-2.true ∙ q))
      ]
      | else-settings-2 w ↦ rw w.if-settings-2.false (w.t-11-is ∙ w.if-settings-2.false)
    ])

pub returns-then-built : goal.returns-then-built
returns-then-built c =
    let a = c.args in
    let other : (a.kind ≡ 12 → ⊥) × (a.kind ≡ 16 → ⊥) = elim c.in_default.branch [
      | in_default-via-in-Ok+in_default w ↦
          other_kind _ w.in_default.field-0 (rw w.in_default.is at c.try_from.ensures) (λ h. search rules) (λ h. search rules)
      | in_default-via-in_default w ↦
          past_kinds _ (rw w.in_default.is at c.try_from.ensures)
    ] in
    λ τ cross is eligible facts scanned few low. for_tuple facts scanned few a.v low a.kind a.dynamic c.tuple_parents.result
    other.0 other.1
    (elim c.if-settings-3.branch [
      | then-settings-3 w ↦ rw (w.if-settings-3.true, sym w.built.ensures ∙ sym w.value-is ∙ c.if-built.true) c.tuple_parents.ensures
      | else-settings-3 w ↦ absurd (true≢false (sym c.if-built.true ∙ w.value-is ∙ w.if-settings-3.false))
    ])

pub returns-else-built : goal.returns-else-built
returns-else-built c =
    let a = c.args in
    let other : (a.kind ≡ 12 → ⊥) × (a.kind ≡ 16 → ⊥) = elim c.in_default.branch [
      | in_default-via-in-Ok+in_default w ↦
          other_kind _ w.in_default.field-0 (rw w.in_default.is at c.try_from.ensures) (λ h. search rules) (λ h. search rules)
      | in_default-via-in_default w ↦
          past_kinds _ (rw w.in_default.is at c.try_from.ensures)
    ] in
    λ τ cross is eligible facts scanned few low. for_tuple facts scanned few a.v low a.kind a.dynamic c.if-settings-3.value
    other.0 other.1
    (elim c.if-settings-3.branch [
      | then-settings-3 w ↦ rw (w.if-settings-3.true, sym w.built.ensures ∙ sym w.value-is ∙ c.if-built.false) c.if-built.false
      | else-settings-3 w ↦ rw w.if-settings-3.false (w.value-is ∙ w.if-settings-3.false)
    ])
