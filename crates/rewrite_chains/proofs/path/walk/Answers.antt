use Rattle.rewrite_chains.proofs.Walks.{going_nowhere, going_more, going_ends, going_done, looked}
use Rattle.std.proofs.Math.Option.{none, some}
use Rattle.rewrite_chains.proofs.path.walk.Goals as goal

pub returns-in_err-p : goal.returns-in_err-p
returns-in_err-p c = λ τ S ps w a h l.
    going_nowhere c.loop-i.invariant c.loop-i-test.true (looked _ _ _ none c.in_err-p.ensures) ps a l

pub returns-in_err-v : goal.returns-in_err-v
returns-in_err-v c =
    rw c.from_residual-in_err-v.ensures
    (going_ends c.loop-i.invariant c.loop-i-test.true _ (looked _ _ _ (some c.in_ok-p.p) c.in_ok-p.ensures) c.in_err-v.ensures)

pub loop-i-preserved : goal.loop-i-preserved
loop-i-preserved c =
    going_more c.loop-i.invariant c.loop-i-test.true _ (looked _ _ _ (some c.in_ok-p.p) c.in_ok-p.ensures) _ c.in_ok-v.ensures

pub returns : goal.returns
returns c = going_done c.loop-i.invariant c.loop-i-test.false
