use Rattle.rewrite_patch.proofs.Putting.{putting, put_more, put_all}
use Rattle.rewrite_patch.proofs.put_numbers.Goals as goal

pub loop-j-init : goal.loop-j-init
loop-j-init c = putting _ _ _ _ _

pub loop-j-preserved : goal.loop-j-preserved
loop-j-preserved c =
    put_more c.reading_count-j-end.result c.reading_place.result c.number-n.result c.put_number.new.out c.loop-j.invariant
    c.reading_count-j-end.ensures.counts c.loop-j-test.true c.reading_place.ensures.places c.number-n.ensures c.put_number.ensures

pub returns : goal.returns
returns c = put_all c.reading_count-j-end.result c.loop-j.invariant c.reading_count-j-end.ensures.counts c.loop-j-test.false
