use Rattle.fold_climb.specs.Edges.{unmarked}
use Rattle.rewrite_descent.proofs.Going.{Going}
use Rattle.rewrite_descent.proofs.+put_deep.Given as goal

abbrev pub decreases-put_deep : goal.decreases-put_deep
decreases-put_deep l = unmarked l.path.now

abbrev pub invariant-loop-k : goal.invariant-loop-k
invariant-loop-k l = Going l.site l.build l.many l.fn.path l.fn.out l.fn.work l.fn.p l.out l.work l.q l.path l.nums l.k
