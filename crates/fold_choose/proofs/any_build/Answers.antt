use Rattle.std.proofs.Common.{rules, tests}
use Rattle.mir.specs.declared.kind.Kind.{Kind}
use Rattle.fold_choose.proofs.Folding.{none_of_three}
use Rattle.fold_choose.proofs.any_build.Goals as goal

pub returns : goal.returns
returns c = λ h slot l r.
    none_of_three _
    (λ z. let p = c.any_kind.ensures h slot Kind.MakeTuple l r z in search (rules, tests))
    (λ z. let p = c.any_kind.ensures h slot Kind.MakeStruct l r z in search (rules, tests))
    (λ z. let p = c.any_kind.ensures h slot Kind.MakeFixedArray l r z in search (rules, tests))
