use mathlib.Core.Path.{ap, ◌∙◌, sym}
use lib.ListN.{get_or}
use Rattle.bytes_index.specs.Recorded.{recorded_from}
use Rattle.mir.specs.Option.{as_option}
use Rattle.shelf_marks.proofs.Bases.{aggregate_past, aggregate_none, aggregate_some, shape_differs}
use Rattle.shelf_reason3.proofs.is_aggregate.Goals as goal

pub returns-then-code-v : goal.returns-then-code-v
returns-then-code-v c = aggregate_past c.args.code c.args.v.0 c.if-code-v.true

pub returns-in-Some : goal.returns-in-Some
returns-in-Some c =
    let a = c.args in
    λ τ g.
    c.ne.ensures ∙ shape_differs c.type_shape.result ∙ aggregate_some a.code a.v.0 c.in-Some.t
    (sym (ap as_option c.in-Some.is) ∙ c.recorded_type.ensures ∙ ap (λ q. recorded_from (get_or q a.v.0 0)) c.recorded.ensures)
    c.if-code-v.false c.type_shape.ensures τ g

pub returns-in-None : goal.returns-in-None
returns-in-None c =
    let a = c.args in
    aggregate_none a.code a.v.0
    (sym (ap as_option c.in-None.is) ∙ c.recorded_type.ensures ∙ ap (λ q. recorded_from (get_or q a.v.0 0)) c.recorded.ensures)
    c.if-code-v.false
