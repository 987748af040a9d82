use Rattle.rewrite_chains.proofs.Booleans.{walks_first}
use Rattle.rewrite_chains.proofs.walkable.Goals as goal

pub returns-in-First : goal.returns-in-First
returns-in-First c = λ i p o w. rw c.in-First.is (walks_first p)

pub returns-in-Second : goal.returns-in-Second
returns-in-Second c = λ i p o w. rw c.in-Second.is (c.no_boolean.ensures i p o w)
