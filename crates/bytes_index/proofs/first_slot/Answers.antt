use Rattle.bytes_index.proofs.Laws.{in_section}
use Rattle.bytes_index.proofs.first_slot.Goals as goal

pub returns : goal.returns
returns c = in_section 354 c.args.k.0 c.args.facts.now c.number.ensures
