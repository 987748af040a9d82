use Rattle.rewrite_keep.proofs.Rebuilding.{Rebuilding}
use Rattle.rewrite_keep.proofs.put_readings.Given as goal

abbrev pub invariant-loop-j : goal.invariant-loop-j
invariant-loop-j l = Rebuilding l.fn.site l.reader l.j-end l.fn.out l.fn.work l.fn.p l.out l.work l.q l.path l.nums l.j
