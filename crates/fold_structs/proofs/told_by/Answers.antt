use mathlib.Core.Path.{ap, sym, ◌∙◌}
use denote.Enum.Bare.{tag_one, same_true, same_false}
use Rattle.mir.specs.contracts.shape.Shape.{the_type}
use Rattle.mir.specs.declared.shape.Shape.{Shape}
use Rattle.mir.specs.Shape.{number_of_shape}
use Rattle.mir.proofs.Numbers.{shape_tag}
use Rattle.fold_structs.proofs.Conditions.{told_none, told_all}
use Rattle.fold_structs.proofs.told_by.Goals as goal

pub returns-then-eq : goal.returns-then-eq
returns-then-eq c =
    let a = c.args in
    told_all a.code a.y a.own.now _ c.type_shape.ensures (ap number_of_shape (same_true the_type tt _ Shape.Struct (sym c.eq.ensures ∙ c.if-eq.true)))
    _ c.behind-inits.ensures.many _ c.type_row.ensures c.all_given.result (rw (c.behind-inits.ensures.bytes, c.behind-inits.ensures.place) at c.all_given.ensures)

pub returns-else-eq : goal.returns-else-eq
returns-else-eq c =
    let a = c.args in
    rw c.if-eq.false (told_none a.code a.y a.own.now _ c.type_shape.ensures
    (λ z. same_false the_type _ Shape.Struct (sym c.eq.ensures ∙ c.if-eq.false) (tag_one the_type tt _ _ (shape_tag c.type_shape.result ∙ z))))
