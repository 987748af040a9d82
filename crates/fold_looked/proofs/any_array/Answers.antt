use Rattle.std.proofs.Common.{rules, tests}
use Rattle.mir.specs.declared.kind.Kind.{Kind}
use Rattle.fold_looked.proofs.any_array.Goals as goal

pub returns : goal.returns
returns c = λ h slot l r z. let p = c.any_kind.ensures h slot Kind.MakeFixedArray l r z in search (rules, tests)
