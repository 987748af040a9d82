use Rattle.std.proofs.Common.{refl, arith, ◌∙◌, ◌+◌, ◌*◌, rules}
use Rattle.std.proofs.lemmas.Iterator.{YieldsList-from_range}
use Rattle.std.proofs.lemmas.Iterator.Search.{all_from_yields_List}
use mathlib.Core.Path.{sym}
use native.Mathlib.Nat.{zero-add}
use Rattle.bytes_wire.specs.Number.{at16}
use Rattle.mir.specs.Lookup.{is_some}
use Rattle.mir.specs.Parts.{given}
use Rattle.fold_structs.proofs.Given.{all_named}
use Rattle.fold_structs.proofs.all_given.Goals as goal

pub returns : goal.returns
returns c next fs ts a l names m =
    let row = c.args.row.now in
    let n = c.field_count.result in
    all_from_yields_List (λ i. is_some (given (record { 0 = at16 row (4 + 4 * i) }) fs)) _ _ _ c.all.ensures.ran
    (YieldsList-from_range 0 n n refl (omega arith)) (λ x b q k. search (rules, a, l))
    ∙ rw (m ∙ sym c.field_count.ensures) at (all_named row 0 fs ts (λ i h. rw zero-add (names.each i h)))
