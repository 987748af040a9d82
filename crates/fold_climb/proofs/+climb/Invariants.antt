use Rattle.fold_climb.proofs.Turn.{Climbing}
use Rattle.fold_climb.specs.Edges.{unmarked}
use Rattle.fold_climb.specs.Scanned.{sight_of}
use Rattle.fold_climb.proofs.+climb.Given as goal

abbrev pub decreases-climb : goal.decreases-climb
decreases-climb l = unmarked l.visited

abbrev pub invariant-loop-k : goal.invariant-loop-k
invariant-loop-k l = Climbing (sight_of l.view.shapes.now l.view.graph.now) l.v.0 l.view.graph.now l.fn.visited l.k l.met
