use Rattle.pass_families.proofs.Marked.{Listing}
use Rattle.pass_families.proofs.list_members.Given as goal

abbrev pub invariant-loop-v : goal.invariant-loop-v
invariant-loop-v l = Listing l.family l.initial.line l.line l.v l.n
