use Rattle.std.proofs.Common.{refl, arith, ◌∙◌, ◌+◌, ◌*◌, rules}
use Rattle.std.proofs.lemmas.Iterator.{YieldsList-from_range}
use Rattle.std.proofs.lemmas.Iterator.Search.{any_from_yields_List}
use lib.Dec.{eqb}
use Rattle.bytes_wire.specs.Number.{at16}
use Rattle.bytes_before.proofs.name_before.Goals as goal
use Rattle.bytes_before.proofs.Same.{any_name}

pub returns : goal.returns
returns c =
    let a = c.args in
    any_from_yields_List (λ j. eqb a.x.0 (at16 a.s.now (a.from + 4 * j))) _ _ _ c.any.ensures.ran
    (YieldsList-from_range 0 a.i a.i refl (omega arith)) (λ x b q k. search rules)
    ∙ any_name a.s.now a.from a.x a.i
