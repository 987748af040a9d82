use Rattle.rewrite_chains.proofs.Stored.{stored_value}
use Rattle.rewrite_chains.proofs.stored_place.Goals as goal

pub returns : goal.returns
returns c =
    λ i p x y o k.
    rw (c.place.ensures.0, c.fields_place.ensures)
    (stored_value c.args.code.bounds c.args.code.bytes.now _ _ _ _ i _ p x y c.instruction-t.ensures c.own_fields-u.ensures
    c.operand_first-first.ensures.0 o.read k)
