use Rattle.std.proofs.Common.{arith}
use Rattle.pass_families.proofs.Putting.{putting_on, puts_all}
use Rattle.pass_families.proofs.View.put_all.Goals as goal

pub loop-j-preserved : goal.loop-j-preserved
loop-j-preserved c =
    let a = c.args in
    let l = c.loop-j in
    let i = l.invariant in (
      omega (arith, c.loop-j-test.true),
      omega (arith, i.1, c.put_one-to.ensures.upper_bound),
      putting_on a.self.named a.self.code a.k.0 a.self.tables a.slots a.text.now
          l.text l.to l.j i.2 c.loop-j-test.true c.put_one-to.new.text c.put_one-to.result c.put_one-to.ensures.written,
    )

pub returns-clause-written : goal.returns-clause-written
returns-clause-written c =
    let a = c.args in
    let l = c.loop-j in
    puts_all a.self.named a.self.code a.k.0 a.self.tables a.slots a.text.now
    l.text l.to l.j l.invariant.2 c.loop-j-test.false
