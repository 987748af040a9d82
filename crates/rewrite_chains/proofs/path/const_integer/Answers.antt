use Rattle.rewrite_chains.proofs.Steps.{boolean_integer}
use Rattle.rewrite_chains.proofs.path.const_integer.Goals as goal

pub returns-in-Literal-Boolean : goal.returns-in-Literal-Boolean
returns-in-Literal-Boolean c = let e = rw c.in-Literal-Boolean.is at c.in-Literal-Boolean.field-0-is in rw (c.in-Literal-Boolean.is, e) (boolean_integer _)
