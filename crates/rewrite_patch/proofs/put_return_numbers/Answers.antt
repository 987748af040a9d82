use Rattle.rewrite_patch.proofs.Returns.{replacing, replace_more, replace_all}
use Rattle.rewrite_patch.proofs.put_return_numbers.Goals as goal

pub loop-j-init : goal.loop-j-init
loop-j-init c = replacing _ _ _ _ _

pub loop-j-preserved : goal.loop-j-preserved
loop-j-preserved c =
    replace_more c.return_count-j-end.result c.return_place.result c.number-n.result c.put_number.new.out c.loop-j.invariant
    c.return_count-j-end.ensures c.loop-j-test.true c.return_place.ensures.places c.number-n.ensures c.put_number.ensures

pub returns : goal.returns
returns c = replace_all c.return_count-j-end.result c.loop-j.invariant c.return_count-j-end.ensures c.loop-j-test.false
