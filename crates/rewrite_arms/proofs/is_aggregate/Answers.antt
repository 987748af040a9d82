use Rattle.std.proofs.Common.{◌∙◌}
use Rattle.rewrite_arms.proofs.Sources.{is_other, aggregate_shape}
use Rattle.rewrite_arms.proofs.is_aggregate.Goals as goal

pub returns : goal.returns
returns c = λ most τ a l. c.ne.ensures ∙ is_other c.type_shape.result ∙ aggregate_shape τ c.args.t _ (c.type_shape.ensures most τ.rows a l)
