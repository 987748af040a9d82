use Rattle.std.proofs.Common.{◌∙◌, sym}
use Rattle.rewrite_wanted.proofs.Asking.{none_other, some_type}
use Rattle.rewrite_wanted.proofs.aggregate.Goals as goal

pub returns-then-eq : goal.returns-then-eq
returns-then-eq c = λ τ g. none_other τ _ _ (sym c.eq.ensures ∙ c.if-eq.true) (c.type_shape.ensures _ τ.rows g.known.rows g.rows)

pub returns : goal.returns
returns c = λ τ g. some_type τ _ _ (sym c.eq.ensures ∙ c.if-eq.false) (c.type_shape.ensures _ τ.rows g.known.rows g.rows)
