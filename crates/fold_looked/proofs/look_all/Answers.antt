use Rattle.fold_looked.proofs.Looking.{flag_on, flags_all}
use Rattle.fold_looked.proofs.look_all.Goals as goal

pub loop-j-preserved : goal.loop-j-preserved
loop-j-preserved c =
    let a = c.args in
    let l = c.loop-j in
    flag_on a.code a.slots a.tables a.family.now a.looked.now
    l.family l.looked l.members l.j l.invariant c.loop-j-test.true c.look-yes.new.family c.look-yes.new.members c.look-yes.result c.put.new.l
    c.look-yes.ensures c.look-yes.auto.members c.put.ensures

pub returns : goal.returns
returns c =
    let a = c.args in
    let l = c.loop-j in
    flags_all a.code a.slots a.tables a.family.now a.looked.now
    l.family l.looked l.members l.j l.invariant c.loop-j-test.false
