use Rattle.std.proofs.Common.{refl, arith, ◌∙◌, ◌+◌, rules, get_or}
use Rattle.std.proofs.lemmas.Iterator.{YieldsList-from_range}
use Rattle.std.proofs.lemmas.Iterator.Search.{any_from_yields_List}
use Rattle.bytes_before.specs.Before.{same_bytes, part}
use Rattle.bytes_before.proofs.type_before.Goals as goal
use Rattle.bytes_before.proofs.Among.{any_part}

pub returns : goal.returns
returns c =
    let a = c.args in
    any_from_yields_List (λ j. same_bytes a.here.now (part a.s.now (get_or a.starts.now j 0) (get_or a.starts.now (j + 1) 0))) _ _ _
    c.any.ensures.ran (YieldsList-from_range 0 a.k a.k refl (omega arith)) (λ x b q k. search rules)
    ∙ any_part a.here.now a.s.now a.starts.now 0 a.k
