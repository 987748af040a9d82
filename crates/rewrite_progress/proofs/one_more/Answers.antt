use borrow.Author.Tests.{lt-ltb, le-ltb}
use Rattle.rewrite.specs.Fault.{full_fault}
use Rattle.rewrite_progress.proofs.one_more.Goals as goal

pub returns-then-n-lt-LAST_NUMBER : goal.returns-then-n-lt-LAST_NUMBER
unfolding full_fault
returns-then-n-lt-LAST_NUMBER c = simp (lt-ltb _ _ c.if-n-lt-LAST_NUMBER.true)

pub returns : goal.returns
unfolding full_fault
returns c = simp (le-ltb _ _ c.if-n-lt-LAST_NUMBER.false)
